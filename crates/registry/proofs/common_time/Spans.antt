-- The ranges of a path's moving hops: the earliest end is the greatest instant inside them all, or the first with the latest start starts after it.
use Prim.Native.Nat.{ℕ, min, ◌≤◌, ◌<◌}
use mathlib.Core.Path.{◌≡◌, refl, ap, subst, subst⁻¹}
use mathlib.Core.Bool.{Bool, true, false, cond}
use Rattle.std.specs.Prelude.{Some}
use mathlib.Core.List.{List, [], ◌∷◌, ◌++◌}
use native.Mathlib.Omega.{arith}
use lib.Dec.{ltb}
use borrow.Author.Tests.{ltb-true, ltb-false}
use Rattle.time.specs.Reply.{hop, Reply, answer, refusal}
use Rattle.buffer.proofs.Cases.{both}
use Rattle.registry.specs.Answers.{Value, static, at}
use Rattle.registry.specs.Path.{Span, earliest_end, latest_start, meet}

-- P of each one's start and end
abbrev pub EverySpan : (ℕ → ℕ → Type 0) → List Span → Type 0
EverySpan P [] = Unit {0}
EverySpan P (x ∷ xs) = P x.start x.end × EverySpan P xs

pub every_span : (P Q : ℕ → ℕ → Type 0) → ((s e : ℕ) → P s e → Q s e) → (xs : List Span) → EverySpan P xs → EverySpan Q xs
every_span P Q w [] h = tt
every_span P Q w (x ∷ xs) h = (w x.start x.end h.0, every_span P Q w xs h.1)

pub both_spans : (P Q R : ℕ → ℕ → Type 0) → ((s e : ℕ) → P s e → Q s e → R s e) → (xs : List Span) → EverySpan P xs → EverySpan Q xs → EverySpan R xs
both_spans P Q R w [] h k = tt
both_spans P Q R w (x ∷ xs) h k = (w x.start x.end h.0 k.0, both_spans P Q R w xs h.1 k.1)

-- ---- the earliest end

earliest_le : (n : ℕ) (xs : List Span) → earliest_end n xs ≤ n
earliest_le n [] = omega arith
earliest_le n (x ∷ xs) = let ih = earliest_le (min n x.end) xs in omega arith

earliest_all : (n : ℕ) (xs : List Span) → EverySpan (λ s e. earliest_end n xs ≤ e) xs
earliest_all n [] = tt
earliest_all n (x ∷ xs) = (let l = earliest_le (min n x.end) xs in omega arith, earliest_all (min n x.end) xs)

-- whatever is at most n and each end is at most the earliest
earliest_top : (j n : ℕ) (xs : List Span) → j ≤ n → EverySpan (λ s e. j ≤ e) xs → j ≤ earliest_end n xs
earliest_top j n [] l h = l
earliest_top j n (x ∷ xs) l h = earliest_top j (min n x.end) xs (let k = h.0 in omega arith) h.1

-- ---- the first with the latest start

-- s stands in the list, after those that start before it and before those that start no later
pub record Latest (s : Span) (xs : List Span) : Type 0 where
  pub before : List Span
  pub after : List Span
  pub place : xs ≡ before ++ (s ∷ after)
  pub earlier : EverySpan (λ start end. start < s.start) before
  pub later : EverySpan (λ start end. start ≤ s.start) after

-- none of them starts after it
latest_all : (s : Span) (xs : List Span) → Latest s xs → EverySpan (λ start end. start ≤ s.start) xs
latest_all s xs h = subst⁻¹ (λ (l : List Span). EverySpan (λ start end. start ≤ s.start) l) h.place (around h.before h.earlier)
  where
    around : (front : List Span) → EverySpan (λ start end. start < s.start) front → EverySpan (λ start end. start ≤ s.start) (front ++ (s ∷ h.after))
    around [] k = (omega arith, h.later)
    around (x ∷ front) k = (let l = k.0 in omega arith, around front k.1)

-- and it is one of them
latest_in : (P : ℕ → ℕ → Type 0) (s : Span) (xs : List Span) → Latest s xs → EverySpan P xs → P s.start s.end
latest_in P s xs h k = found h.before (subst (λ (l : List Span). EverySpan P l) h.place k)
  where
    found : (front : List Span) → EverySpan P (front ++ (s ∷ h.after)) → P s.start s.end
    found [] k = k.0
    found (x ∷ front) k = found front k.1

-- one more, before one that starts after it
before_latest : (s x y : Span) (ys : List Span) → x.start < y.start → Latest s (y ∷ ys) → Latest s (x ∷ y ∷ ys)
before_latest s x y ys l h = record {
  before = x ∷ h.before;
  after = h.after;
  place = ap {B = List Span} (λ r. x ∷ r) h.place;
  earlier = (let k = (latest_all s (y ∷ ys) h).0 in omega arith, h.earlier);
  later = h.later;
}

-- one more, after the first, that starts no later
after_first : (s x y : Span) (ys : List Span) → y.start ≤ x.start → Latest s (x ∷ ys) → Latest s (x ∷ y ∷ ys)
after_first s x y ys l h = go h.before h.place h.earlier
  where
    go : (front : List Span) → x ∷ ys ≡ front ++ (s ∷ h.after) → EverySpan (λ start end. start < s.start) front → Latest s (x ∷ y ∷ ys)
    go [] p f =
        let this : x ≡ s = cc p in
        let rest : ys ≡ h.after = cc p in
        record {
          before = [];
          after = y ∷ h.after;
          place = λ i. this i ∷ y ∷ rest i;
          earlier = tt;
          later = (let e : x.start ≡ s.start = ap (λ (z : Span). z.start) this in omega arith, h.later);
        }
    go (b ∷ front) p f =
        let this : x ≡ b = cc p in
        let rest : ys ≡ front ++ (s ∷ h.after) = cc p in
        let e : x.start ≡ b.start = ap (λ (z : Span). z.start) this in
        let k = f.0 in
        record {
          before = b ∷ y ∷ front;
          after = h.after;
          place = λ i. this i ∷ y ∷ rest i;
          earlier = (k, (omega arith, f.1));
          later = h.later;
        }

latest_placed : (x : Span) (xs : List Span) → Latest (latest_start x xs) (x ∷ xs)
latest_placed x [] = record { before = []; after = []; place = refl; earlier = tt; later = tt }
latest_placed x (y ∷ ys) = go (ltb x.start y.start) refl (latest_placed y ys) (latest_placed x ys)
  where
    go : (b : Bool) → ltb x.start y.start ≡ b → Latest (latest_start y ys) (y ∷ ys) → Latest (latest_start x ys) (x ∷ ys)
        → Latest (latest_start (cond b y x) ys) (x ∷ y ∷ ys)
    go true e l k = before_latest (latest_start y ys) x y ys (ltb-true x.start y.start e) l
    go false e l k = after_first (latest_start x ys) x y ys (ltb-false x.start y.start e) k

-- ---- the meeting of the ranges

abbrev pub Between : ℕ → ℕ → ℕ → Type 0
Between i start end = (start ≤ i) × (i ≤ end)

-- what `meet` replies, and when
pub data Met (xs : List Span) (r : Reply Value) : Type 0 where
  still : r ≡ answer static → xs ≡ [] → Met xs r
  meets : (i : ℕ) → r ≡ answer (at i) → EverySpan (Between i) xs → ((j : ℕ) → EverySpan (Between j) xs → j ≤ i) → Met xs r
  apart : (s : Span) → r ≡ refusal 12 (hop s.child (Some (s.start, s.end))) → ((i : ℕ) → EverySpan (Between i) xs → ⊥) → Latest s xs → Met xs r

pub met : (xs : List Span) → Met xs (meet xs)
met [] = still refl refl
met (x ∷ xs) =
    let end = earliest_end x.end xs in
    let late = latest_start x xs in
    both (ltb end late.start)
    (λ e. apart late (rw e) (none_inside (ltb-true end late.start e)) (latest_placed x xs))
    (λ e. meets end (rw e) (inside (ltb-false end late.start e)) top)
  where
    top : (j : ℕ) → EverySpan (Between j) (x ∷ xs) → j ≤ earliest_end x.end xs
    top j h = earliest_top j x.end xs h.0.1 (every_span (Between j) (λ s e. j ≤ e) (λ s e k. k.1) xs h.1)

    inside : (latest_start x xs).start ≤ earliest_end x.end xs → EverySpan (Between (earliest_end x.end xs)) (x ∷ xs)
    inside l =
        both_spans (λ s e. s ≤ (latest_start x xs).start) (λ s e. earliest_end x.end xs ≤ e) (Between (earliest_end x.end xs))
        (λ s e a b. (omega arith, b))
        (x ∷ xs) (latest_all (latest_start x xs) (x ∷ xs) (latest_placed x xs)) (earliest_le x.end xs, earliest_all x.end xs)

    none_inside : earliest_end x.end xs < (latest_start x xs).start → (i : ℕ) → EverySpan (Between i) (x ∷ xs) → ⊥
    none_inside l i h =
        let below = top i h in
        let above = (latest_in (Between i) (latest_start x xs) (x ∷ xs) (latest_placed x xs) h).0 in
        omega arith
