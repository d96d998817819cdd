-- Additions one by one: where all are answered with done, and where one is refused.
use Prim.Native.Nat.{ℕ, suc, ◌+◌}
use mathlib.Core.Path.{◌≡◌, refl, sym, ap, ◌∙◌}
use Rattle.std.specs.Prelude.{Option, None, Some}
use mathlib.Core.List.{List, [], ◌∷◌}
use native.Mathlib.Omega.{arith}
use lib.ListN.{take, drop}
use Rattle.time.specs.Reply.{Carried, Reply, answer, refusal}
use Rattle.time.proofs.Replies.{refusal_answer}
use Rattle.buffer.proofs.Cases.{none_some}
use Rattle.registry.specs.Tree.{Addition}
use Rattle.registry.specs.Store.{Store}
use Rattle.registry.specs.Answers.{Value, done}
use Rattle.registry.specs.Calls.{add_of}
use Rattle.registry.specs.History.{run, accepted}
use Rattle.map_loading.specs.Loading.{add_all}

-- each is answered with done, and the store is what they leave
pub record AllAdded (found : Store) (n : ℕ) (s : Store) (xs : List Addition) : Type 0 where
  pub reply : (add_all found n s xs).reply ≡ answer done
  pub each : accepted add_of s xs ≡ xs
  pub left : (add_all found n s xs).store ≡ run add_of s xs

-- those before the one at an index are answered with done, and it is refused
pub record OneRefused (found : Store) (n : ℕ) (s : Store) (xs : List Addition) (index : ℕ) : Type 0 where
  pub before : accepted add_of s (take index xs) ≡ take index xs
  pub refused : Addition
  pub behind : List Addition
  pub at : drop index xs ≡ refused ∷ behind
  pub reply : (add_all found n s xs).reply ≡ (add_of (run add_of s (take index xs)) refused).reply
  pub number : ℕ
  pub carried : Carried
  pub is : (add_all found n s xs).reply ≡ refusal number carried
  pub as_found : (add_all found n s xs).store ≡ found

module _ (found : Store) where
  pub all_added : (n : ℕ) (s : Store) (xs : List Addition) → (add_all found n s xs).record? ≡ None → AllAdded found n s xs
  all_added n s [] e = record { reply = refl; each = refl; left = refl }
  all_added n s (a ∷ xs) e = by (add_of s a).reply refl (all_added (suc n) (add_of s a).store xs)
    where
      by : (r : Reply Value) → (add_of s a).reply ≡ r → ((add_all found (suc n) (add_of s a).store xs).record? ≡ None → AllAdded found (suc n) (add_of s a).store xs)
          → AllAdded found n s (a ∷ xs)
      by (answer v) q ih =
          let rest = ih (rw q at e) in
          record { reply = rw q rest.reply; each = rw q (ap (λ (l : List Addition). a ∷ l) rest.each); left = rw q rest.left }
      by (refusal k c) q ih = absurd (none_some (sym (rw q at e)))

  -- at some index, and its number counts on from n
  abbrev Refused : ℕ → Store → List Addition → ℕ → Type 0
  Refused n s xs m = (index : ℕ) × (m ≡ n + index) × OneRefused found n s xs index

  pub one_refused : (n : ℕ) (s : Store) (xs : List Addition) (m : ℕ) → (add_all found n s xs).record? ≡ Some m → Refused n s xs m
  one_refused n s [] m e = absurd (none_some e)
  one_refused n s (a ∷ xs) m e = by (add_of s a).reply refl (one_refused (suc n) (add_of s a).store xs m)
    where
      by : (r : Reply Value) → (add_of s a).reply ≡ r
          → ((add_all found (suc n) (add_of s a).store xs).record? ≡ Some m → Refused (suc n) (add_of s a).store xs m) → Refused n s (a ∷ xs) m
      by (answer v) q ih =
          let later = ih (rw q at e) in
          let rest = later.2 in (
            suc later.0,
            let l = later.1 in omega arith,
            record {
              before = rw q (ap (λ (l : List Addition). a ∷ l) rest.before);
              refused = rest.refused;
              behind = rest.behind;
              at = rest.at;
              reply = rw q rest.reply;
              number = rest.number;
              carried = rest.carried;
              is = rw q rest.is;
              as_found = rw q rest.as_found;
            },
          )
      by (refusal k c) q ih =
          let here : Some n ≡ Some m = rw q at e in
          let same : n ≡ m = cc here in (
            0,
            omega (arith, same),
            record { before = refl; refused = a; behind = xs; at = refl; reply = rw q; number = k; carried = c; is = rw q; as_found = rw q },
          )

  -- a refusal leaves the store as found
  pub refused_as_found_lem : (n : ℕ) (s : Store) (xs : List Addition) (k : ℕ) (c : Carried) → (add_all found n s xs).reply ≡ refusal k c → (add_all found n s xs).store ≡ found
  refused_as_found_lem n s xs k c e = by (add_all found n s xs).record? refl
    where
      by : (r : Option ℕ) → (add_all found n s xs).record? ≡ r → (add_all found n s xs).store ≡ found
      by None q = absurd (refusal_answer (sym e ∙ (all_added n s xs q).reply))
      by (Some m) q = (one_refused n s xs m q).2.as_found

  -- done is answered where no record is refused
  pub done_added : (n : ℕ) (s : Store) (xs : List Addition) → (add_all found n s xs).reply ≡ answer done → AllAdded found n s xs
  done_added n s xs e = by (add_all found n s xs).record? refl
    where
      by : (r : Option ℕ) → (add_all found n s xs).record? ≡ r → AllAdded found n s xs
      by None q = all_added n s xs q
      by (Some m) q = absurd (refusal_answer (sym (one_refused n s xs m q).2.is ∙ e))
