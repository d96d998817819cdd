-- The numbered names as a list: which names are among them, the number of a name and the name of a number, and that
-- names that come later stand behind.
use mathlib.Core.Path.{◌≡◌, refl, sym, ap, ◌∙◌}
use mathlib.Core.Bool.{Bool, true, false, cond, not, ◌&&◌, ◌||◌, or_assoc, or-false}
use Rattle.std.specs.Prelude.{Some}
use mathlib.Core.List.{List, [], ◌∷◌, ◌++◌, append_assoc, append-nil}
use Prim.Native.Nat.{ℕ, zero, suc, ◌<◌}
use native.Mathlib.Omega.{arith}
use lib.ListN.{length}
use borrow.Author.Tests.{not-true}
use Rattle.text.specs.Reading.{same}
use Rattle.buffer.proofs.Cases.{both, none_some, false_true, and_left, and_right}
use Rattle.map_file.specs.Form.{Name}
use Rattle.map_file.specs.Book.{among, numbered, numbered_all, position, at_number}
use Rattle.map_file.proofs.BookSame.{same_is, same_self}

-- ---- which names are among some

-- what holds in one of two cases adds nothing where it holds in the other
or_within : (a b : Bool) → (b ≡ true → a ≡ true) → (a || b) ≡ a
or_within true b h = refl
or_within false true h = sym (h refl)
or_within false false h = refl

pub among_append : (n : Name) (xs ys : List Name) → among n (xs ++ ys) ≡ (among n xs || among n ys)
among_append n [] ys = refl
among_append n (x ∷ xs) ys = ap (λ (b : Bool). same n x || b) (among_append n xs ys) ∙ sym (or_assoc (same n x) (among n xs) (among n ys))

pub among_numbered : (n : Name) (names : List Name) (m : Name) → among n (numbered names m) ≡ (among n names || same n m)
among_numbered n names m =
    both (among m names)
    (λ e. rw e (sym (or_within (among n names) (same n m) (λ s. ap (λ (k : Name). among k names) (same_is n m s) ∙ e))))
    (λ e. rw e (among_append n names (m ∷ []) ∙ ap (λ (b : Bool). among n names || b) (or-false (same n m))))

pub among_numbered_all : (n : Name) (names ns : List Name) → among n (numbered_all names ns) ≡ (among n names || among n ns)
among_numbered_all n names [] = sym (or-false (among n names))
among_numbered_all n names (m ∷ ns) =
    among_numbered_all n (numbered names m) ns ∙ ap (λ (b : Bool). b || among n ns) (among_numbered n names m) ∙ or_assoc (among n names) (same n m) (among n ns)

-- ---- names that come later stand behind

pub numbered_all_append : (names xs ys : List Name) → numbered_all names (xs ++ ys) ≡ numbered_all (numbered_all names xs) ys
numbered_all_append names [] ys = refl
numbered_all_append names (x ∷ xs) ys = numbered_all_append (numbered names x) xs ys

-- a list goes on from another
pub record GoesOn (names all : List Name) : Type 0 where
  pub more : List Name
  pub is : all ≡ names ++ more

goes_numbered : (names : List Name) (n : Name) → GoesOn names (numbered names n)
goes_numbered names n =
    both (among n names)
    (λ e. record { more = []; is = rw e (sym (append-nil names)) })
    (λ e. record { more = n ∷ []; is = rw e refl })

pub goes_on : (names ns : List Name) → GoesOn names (numbered_all names ns)
goes_on names [] = record { more = []; is = sym (append-nil names) }
goes_on names (n ∷ ns) =
    let one = goes_numbered names n in
    let rest = goes_on (numbered names n) ns in
    record {
      more = one.more ++ rest.more;
      is = rest.is ∙ ap (λ (l : List Name). l ++ rest.more) one.is ∙ append_assoc names one.more rest.more;
    }

-- ---- no name stands twice

abbrev pub distinct : List Name → Bool
distinct [] = true
distinct (n ∷ ns) = not (among n ns) && distinct ns

same_swap : (a b : Name) → same a b ≡ true → same b a ≡ true
same_swap a b h = ap (λ (x : Name). same b x) (same_is a b h) ∙ same_self b

distinct_snoc : (xs : List Name) (n : Name) → distinct xs ≡ true → among n xs ≡ false → distinct (xs ++ (n ∷ [])) ≡ true
distinct_snoc [] n d h = refl
distinct_snoc (x ∷ xs) n d h =
    both (same n x)
    (λ e. absurd (false_true (sym h ∙ rw e refl)))
    (λ e.
    let rest : among n xs ≡ false = rw e at h in
    let first : among x xs ≡ false = not-true (among x xs) (and_left _ _ d) in
    let other : same x n ≡ false = both (same x n) (λ s. absurd (false_true (sym e ∙ same_swap x n s))) (λ s. s) in
    rw (among_append x xs (n ∷ []), first, other) (distinct_snoc xs n (and_right (not (among x xs)) _ d) rest))

pub distinct_all : (names ns : List Name) → distinct names ≡ true → distinct (numbered_all names ns) ≡ true
distinct_all names [] d = d
distinct_all names (n ∷ ns) d =
    distinct_all (numbered names n) ns
    (both (among n names) (λ e. rw e d) (λ e. rw e (distinct_snoc names n d e)))

-- ---- the number of a name and the name of a number

pub position_append : (n : Name) (xs ys : List Name) → among n xs ≡ true → position n (xs ++ ys) ≡ position n xs
position_append n [] ys h = absurd (false_true h)
position_append n (x ∷ xs) ys h =
    both (same n x)
    (λ e. rw e refl)
    (λ e. rw e (ap suc (position_append n xs ys (rw e at h))))

pub position_behind : (n : Name) (xs ys : List Name) → among n xs ≡ false → position n (xs ++ (n ∷ ys)) ≡ length xs
position_behind n [] ys h = rw (same_self n) refl
position_behind n (x ∷ xs) ys h =
    both (same n x)
    (λ e. absurd (false_true (sym h ∙ rw e refl)))
    (λ e. rw e (ap suc (position_behind n xs ys (rw e at h))))

pub at_some : (k : ℕ) (xs : List Name) → k < length xs → (name : Name) × (at_number k xs ≡ Some name)
at_some k [] h = absurd (omega arith)
at_some zero (x ∷ xs) h = (x, refl)
at_some (suc k) (x ∷ xs) h = at_some k xs (omega arith)

pub at_below : (k : ℕ) (xs : List Name) (n : Name) → at_number k xs ≡ Some n → k < length xs
at_below k [] n h = absurd (none_some h)
at_below zero (x ∷ xs) n h = omega arith
at_below (suc k) (x ∷ xs) n h = let below : k < length xs = at_below k xs n h in omega arith

pub at_position : (n : Name) (xs : List Name) → among n xs ≡ true → at_number (position n xs) xs ≡ Some n
at_position n [] h = absurd (false_true h)
at_position n (x ∷ xs) h =
    both (same n x)
    (λ e. rw e (ap Some (sym (same_is n x e))))
    (λ e. rw e (at_position n xs (rw e at h)))

-- a name at a number is among them
pub at_among : (k : ℕ) (xs : List Name) (n : Name) → at_number k xs ≡ Some n → among n xs ≡ true
at_among k [] n h = absurd (none_some h)
at_among zero (x ∷ xs) n h = let e : x ≡ n = cc h in rw (e, same_self n) refl
at_among (suc k) (x ∷ xs) n h = both (same n x) (λ e. rw e refl) (λ e. rw e (at_among k xs n h))

-- where no name stands twice, it has that number
pub position_at : (k : ℕ) (xs : List Name) (n : Name) → distinct xs ≡ true → at_number k xs ≡ Some n → position n xs ≡ k
position_at k [] n d h = absurd (none_some h)
position_at zero (x ∷ xs) n d h = let e : x ≡ n = cc h in rw (e, same_self n) refl
position_at (suc k) (x ∷ xs) n d h =
    both (same n x)
    (λ e. absurd (false_true (sym (not-true (among x xs) (and_left _ _ d)) ∙ ap (λ (m : Name). among m xs) (sym (same_is n x e)) ∙ at_among k xs n h)))
    (λ e. rw e (ap suc (position_at k xs n (and_right (not (among x xs)) _ d) h)))

-- ---- a name that first appears here: its place among the numbered names is behind those before it

pub record FirstStands (before : List Name) (name : Name) (after : List Name) : Type 0 where
  pub more : List Name
  pub is : numbered_all [] (before ++ (name ∷ after)) ≡ numbered_all [] before ++ (name ∷ more)
  pub new : among name (numbered_all [] before) ≡ false

pub first_stands : (before : List Name) (name : Name) (after : List Name) → among name before ≡ false → FirstStands before name after
first_stands before name after h =
    let front = numbered_all [] before in
    let new : among name front ≡ false = among_numbered_all name [] before ∙ h in
    let rest = goes_on (front ++ (name ∷ [])) after in
    record {
      more = rest.more;
      is = numbered_all_append [] before (name ∷ after)
          ∙ ap (λ (b : Bool). numbered_all (cond b front (front ++ (name ∷ []))) after) new
          ∙ rest.is ∙ append_assoc front (name ∷ []) rest.more;
      new = new;
    }
