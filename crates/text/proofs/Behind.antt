-- Texts written behind texts are the texts of one list.
use Rattle.std.proofs.Common.{◌≡◌, ℕ, List, [], ◌∷◌, ◌++◌, refl, ap, ◌∙◌}
use Rattle.text.specs.declared.write.Writer.{Writer}
use Rattle.text.specs.Writing.{written, written_all, Writes}

split : (out : List ℕ) (at : ℕ) (xs ys : List (List ℕ)) → written_all (written_all out at xs).1 (written_all out at xs).0 ys ≡ written_all out at (xs ++ ys)
unfolding written_all
split out at [] ys = refl
split out at (t ∷ xs) ys = split (written out at t).1 (written out at t).0 xs ys

-- texts xs, then texts ys
pub behind : (e : ℕ × List ℕ) (out out₁ : List ℕ) (at next : ℕ) (xs ys : List (List ℕ)) → (next, out₁) ≡ written_all out at xs → e ≡ written_all out₁ next ys → e ≡ written_all out at (xs ++ ys)
behind e out out₁ at next xs ys p q = q ∙ ap (λ (w : ℕ × List ℕ). written_all w.1 w.0 ys) p ∙ split out at xs ys

-- no text
pub none : (out : List ℕ) (at : ℕ) → (at, out) ≡ written_all out at []
unfolding written_all
none out at = refl

-- what a writer writes behind other texts
pub writes_behind : {u v w : Writer} {xs ys : List (List ℕ)} → Writes u v xs → Writes v w ys → Writes u w (xs ++ ys)
writes_behind {u} {v} {w} {xs} {ys} p q = record {
  same_buffer = q.same_buffer ∙ p.same_buffer;
  text = behind (w.at, w.out.now) u.out.now v.out.now u.at v.at xs ys p.text q.text;
}

-- The place and the buffer, with a text more. Where a function or its crate names `written_in_turn` in its attribute, as
-- `#[tactic(auto, using(text::proofs::Behind::written_in_turn))]`, the check finds what up to 14 texts in a row become; of more,
-- `writes_behind` joins the calls.
unfoldable pub with_text : List ℕ → ℕ × List ℕ → ℕ × List ℕ
with_text t s = written s.1 s.0 t

abbrev pub with_texts : List (List ℕ) → ℕ × List ℕ → ℕ × List ℕ
with_texts [] s = s
with_texts (t ∷ texts) s = with_texts texts (with_text t s)

pub written_in_turn : (out : List ℕ) (at : ℕ) (texts : List (List ℕ)) → written_all out at texts ≡ with_texts texts (at, out)
unfolding written_all with_text
written_in_turn out at [] = refl
written_in_turn out at (t ∷ texts) = written_in_turn (written out at t).1 (written out at t).0 texts
