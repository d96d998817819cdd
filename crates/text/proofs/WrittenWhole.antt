-- The law of texts written one behind the other.
use Prim.Native.Nat.{ℕ, ◌+◌, ◌≤◌}
use mathlib.Core.Path.{◌≡◌, refl, sym, ap, ◌∙◌}
use mathlib.Core.List.{List, [], ◌∷◌, ◌++◌, append_assoc, append-nil}
use native.Mathlib.Omega.{arith}
use lib.ListN.{length, take, drop, length-append, take-append-drop}
use lib.Seq.{length_front, length-take-le, take_at, drop-append-add, drop-drop}
use borrow.Author.Tests.{le-leb}
use Rattle.text.specs.Writing.{written, written_all, joined}
use Rattle.text.specs.Laws.{WrittenWhole}

-- the buffer with the text at the place
abbrev put : List ℕ → ℕ → List ℕ → List ℕ
put out at t = take at out ++ t ++ drop (at + length t) out

-- there is room
fits : (out : List ℕ) (at : ℕ) (t : List ℕ) → at + length t ≤ length out → written out at t ≡ (at + length t, put out at t)
unfolding written
fits out at t h = rw (le-leb (at + length t) (length out) h) refl

module _ (out : List ℕ) (at : ℕ) (t : List ℕ) (h : at + length t ≤ length out) where
  front : length (take at out ++ t) ≡ at + length t
  front = length-append (take at out) t ∙ ap (λ (n : ℕ). n + length t) (length-take-le at out (omega (arith, h)))

  length_put : length (put out at t) ≡ length out
  length_put = length_front out (take at out ++ t) (at + length t) (front ∙ sym (length-take-le (at + length t) out h))

  take_put : take (at + length t) (put out at t) ≡ take at out ++ t
  take_put = take_at (take at out ++ t) (drop (at + length t) out) (at + length t) front

  drop_put : (n : ℕ) → drop (at + length t + n) (put out at t) ≡ drop (at + length t + n) out
  drop_put n =
      ap (λ (k : ℕ). drop (k + n) (put out at t)) (sym front)
      ∙ drop-append-add (take at out ++ t) (drop (at + length t) out) n
      ∙ drop-drop n (at + length t) out

  places : (c : List ℕ) → at + length t + length c ≡ at + length (t ++ c)
  places c = omega (arith, length-append t c)

  -- a second text behind the first
  two : (c : List ℕ) → at + length t + length c ≤ length out → written (put out at t) (at + length t) c ≡ written out at (t ++ c)
  two c k =
      let sum = length-append t c in
      let n = at + length t + length c in
      fits (put out at t) (at + length t) c (omega (arith, length_put, k))
      ∙ ap (λ (l : List ℕ). (n, l ++ c ++ drop n (put out at t))) take_put
      ∙ ap (λ (l : List ℕ). (n, take at out ++ t ++ c ++ l)) (drop_put (length c))
      ∙ ap (λ (l : List ℕ). (n, l ++ drop n out)) (append_assoc (take at out) t c)
      ∙ ap (λ (j : ℕ). (j, take at out ++ (t ++ c) ++ drop j out)) (places c)
      ∙ sym (fits out at (t ++ c) (omega (arith, sum, k)))

pub written_whole : WrittenWhole
unfolding written_all
written_whole [] out at h =
    sym
    (fits out at [] h
    ∙ ap (λ (n : ℕ). (n, take at out ++ [] ++ drop n out)) (omega arith)
    ∙ ap (λ (l : List ℕ). (at, l ++ drop at out)) (append-nil (take at out))
    ∙ ap (λ (l : List ℕ). (at, l)) (take-append-drop at out))
written_whole (t ∷ texts) out at h =
    let sum = length-append t (joined texts) in
    let room : at + length t ≤ length out = omega (arith, sum, h) in
    let all : at + length t + length (joined texts) ≤ length out = omega (arith, sum, h) in
    ap (λ (w : ℕ × List ℕ). written_all w.1 w.0 texts) (fits out at t room)
    ∙ written_whole texts (put out at t) (at + length t) (omega (arith, length_put out at t room, all))
    ∙ two out at t room (joined texts) all
