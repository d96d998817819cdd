-- Reading what writing wrote gives the value back. Assumes nothing.
use mathlib.Core.Path.{◌≡◌, refl, sym, ap, ◌∙◌, subst}
use mathlib.Core.Bool.{Bool, true, false, cond}
use Rattle.std.specs.Prelude.{Option, None, Some, unwrap_or}
use Rattle.time.proofs.Options.{None-ne-Some}
use mathlib.Core.List.{List, [], ◌∷◌, ◌++◌, append_assoc, append-nil}
use Prim.Native.Nat.{ℕ, zero, suc, ◌+◌, ◌*◌, ◌/◌, ◌%◌, ◌^◌, ◌≤◌, ◌<◌}
use native.Mathlib.Nat.{mod-lt, div-add-mod', pow-zero, pow-suc, div-lt_iff_lt-mul}
use native.Mathlib.Omega.{arith}
use borrow.Author.Tests.{lt-ltb, le-leb, ne_eqb}
use lib.Arith.{lt-one}
use lib.Dec.{T, ltb}
use lib.ListN.{length, take, drop, length-append}
use lib.Seq.{length-take-le, take_at, drop-append_seam}
use lib.Ieee.{Float, binary64, fits, is_nan, to_bits}
use lib.Ieee.Bits.{of_bits-to_bits, to_bits-lt}
use Rattle.text.specs.Digits.{digit_character, digit, digits, number_from, below, digit_count}
use Rattle.text.specs.Reading.{up_to_space, going_on, not_empty, read_at, number, frame, float}
use Rattle.text.specs.Writing.{number_text, float_text, written}
use Rattle.text.specs.Laws.{ReadBack, NumberBack, FrameBack, FloatBack, ByteBack, NanNotRead, WrittenBack, NoZeroInFront}
use Rattle.text.proofs.DigitCharacters.{digit_digit_character, digit_character_no_space}
use Rattle.text.proofs.DigitCounts.{digit_count_some, digit_count_hold, first_digit}
use Rattle.text.proofs.Stores.{length_digits}

-- ---- the number of digits that were written

number_append : (base a m : ℕ) (u v : List ℕ) → number_from base a u ≡ Some m → number_from base a (u ++ v) ≡ number_from base m v
number_append base a m [] v e = ap (λ (o : Option ℕ). number_from base (unwrap_or o 0) v) e
number_append base a m (c ∷ u) v e = go (ltb (digit c) base) e (number_append base (a * base + digit c) m u v)
  where
    go : (b : Bool) → cond b (number_from base (a * base + digit c) u) None ≡ Some m
        → (number_from base (a * base + digit c) u ≡ Some m → number_from base (a * base + digit c) (u ++ v) ≡ number_from base m v)
        → cond b (number_from base (a * base + digit c) (u ++ v)) None ≡ number_from base m v
    go true e h = h e
    go false e h = absurd (None-ne-Some _ e)

number_digits : (base : ℕ) → 0 < base → base ≤ 16 → (k n : ℕ) → n < base ^ k → number_from base 0 (digits base k n) ≡ Some n
unfolding digits
number_digits base p q zero n h = ap Some (sym (lt-one (subst (λ (m : ℕ). n < m) (pow-zero base) h)))
number_digits base p q (suc k) n h =
    let less : n / base < base ^ k = (div-lt_iff_lt-mul p).1 (subst (λ (m : ℕ). n < m) (pow-suc base k) h) in
    let r : n % base < base = mod-lt n p in
    number_append base 0 (n / base) (digits base k (n / base)) (digit_character (n % base) ∷ []) (number_digits base p q k (n / base) less)
    ∙ simp (digit_digit_character (n % base) (omega arith), lt-ltb (n % base) base r, div-add-mod' n base)

-- ---- the word that was written

-- no space stands in u
abbrev Solid : List ℕ → Type 0
Solid u = (v : List ℕ) → up_to_space (u ++ v) ≡ u ++ up_to_space v

solid_digits : (base k n : ℕ) → Solid (digits base k n)
unfolding digits
solid_digits base zero n v = refl
solid_digits base (suc k) n v =
    ap up_to_space (append_assoc (digits base k (n / base)) (digit_character (n % base) ∷ []) v)
    ∙ solid_digits base k (n / base) (digit_character (n % base) ∷ v)
    ∙ ap (λ (b : Bool). digits base k (n / base) ++ cond b [] (digit_character (n % base) ∷ up_to_space v)) (ne_eqb (digit_character (n % base)) 32 (digit_character_no_space (n % base)))
    ∙ sym (append_assoc (digits base k (n / base)) (digit_character (n % base) ∷ []) (up_to_space v))

read_back : {A : Type 0} (form : List ℕ → Option A) (a : A) (text : List ℕ) → form text ≡ Some a → 0 < length text → Solid text → ReadBack form a text
unfolding read_at
read_back {A} form a text e p s before after h =
    ap (λ (w : List ℕ). going_on (not_empty form w) (length before + length w + 1)) word ∙ filled text e p (length before + length text + 1)
  where
    word : up_to_space (drop (length before) (before ++ (text ++ after))) ≡ text
    word = ap up_to_space (drop-append_seam before (text ++ after)) ∙ s after ∙ ap (λ (w : List ℕ). text ++ w) h ∙ append-nil text

    filled : (w : List ℕ) → form w ≡ Some a → 0 < length w → (n : ℕ) → going_on (not_empty form w) n ≡ Some (a, n)
    filled [] e p n = absurd (omega arith)
    filled (c ∷ w) e p n = ap (λ (o : Option A). going_on o n) e

digits_read : {A : Type 0} (form : List ℕ → Option A) (a : A) (base k n : ℕ) → 0 < k → form (digits base k n) ≡ Some a → ReadBack form a (digits base k n)
digits_read form a base k n p e = read_back form a (digits base k n) e (omega (arith, length_digits base k n)) (solid_digits base k n)

-- ---- the laws

number_text_lem : (n : ℕ) → n < 2 ^ 64 → number (number_text n) ≡ Some n
number_text_lem n h = ap (below (2 ^ 64)) (number_digits 10 (omega arith) (omega arith) (digit_count 19 n) n (digit_count_hold 19 n (omega arith))) ∙ simp (lt-ltb n (2 ^ 64) h)

pub byte_back : ByteBack
byte_back b h = simp (length_digits 16 2 b, number_digits 16 (omega arith) (omega arith) 2 b h, lt-ltb b (2 ^ 64) (omega arith))

pub number_back : NumberBack
number_back n h = digits_read number n 10 (digit_count 19 n) n (digit_count_some 19 n) (number_text_lem n h)

pub frame_back : FrameBack
frame_back n h = digits_read frame n 10 (digit_count 19 n) n (digit_count_some 19 n) (ap (below (2 ^ 32)) (number_text_lem n (omega arith)) ∙ simp (lt-ltb n (2 ^ 32) h))

float_text_lem : (x : Float) → T (fits binary64 x) → float (digits 16 16 (to_bits binary64 x)) ≡ Some x
float_text_lem x f =
    let b = to_bits binary64 x in
    let h : b < 2 ^ 64 = to_bits-lt binary64 x f in
    simp (length_digits 16 16 b, number_digits 16 (omega arith) (omega arith) 16 b h, lt-ltb b (2 ^ 64) h, of_bits-to_bits binary64 x f)

pub float_back : FloatBack
unfolding float_text
float_back x f h = rw h (digits_read float x 16 16 (to_bits binary64 x) (omega arith) (float_text_lem x f))

pub nan_not_read : NanNotRead
unfolding is_nan float_text
nan_not_read = refl

pub written_back : WrittenBack
unfolding written
written_back A form a text back out at room =
    let w : length (take at out) ≡ at = length-take-le at out (omega arith) in
    let cut : take (at + length text) (take at out ++ text ++ drop (at + length text) out) ≡ take at out ++ (text ++ []) =
    take_at (take at out ++ text) (drop (at + length text) out) (at + length text) (length-append (take at out) text ∙ ap (λ (k : ℕ). k + length text) w)
    ∙ ap (λ (l : List ℕ). take at out ++ l) (sym (append-nil text)) in
    simp (le-leb (at + length text) (length out) room, cut)
    (subst (λ (p : ℕ). read_at form (take at out ++ (text ++ [])) p ≡ Some (a, p + length text + 1)) w (back (take at out) [] refl))

pub no_zero_in_front : NoZeroInFront
no_zero_in_front n p h e = omega (arith, first_digit 19 n p (omega arith))
