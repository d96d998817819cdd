-- Texts written one behind the other: a function that calls others in turn is proved by `search in_turn`.
use Rattle.std.proofs.Common.{◌≡◌, ℕ, List, [], ◌∷◌, ◌++◌, sym, ap, ◌∙◌, refl, rules}
use Rattle.text.specs.declared.write.Writer.{Writer}
use Rattle.text.specs.Writing.{written_all, Writes}
use Rattle.text.proofs.Behind.{behind, none, writes_behind, with_text, with_texts}

-- a text, and then others
pub writes_text : {u v w : Writer} {t : List ℕ} {texts : List (List ℕ)} → Writes u v (t ∷ []) → Writes v w texts → Writes u w (t ∷ texts)
writes_text {u} {v} {w} {t} {texts} p q = writes_behind {xs = t ∷ []} p q

pub ruleset in_turn = (rules, writes_text, writes_behind)

-- no text
pub writes_none : (w : Writer) (texts : List (List ℕ)) → texts ≡ [] → Writes w w texts
writes_none w texts e = record { same_buffer = refl; text = none w.out.now w.at ∙ ap (written_all w.out.now w.at) (sym e) }

-- ---- a loop that writes

-- the texts that are left of a writer lead where all led: the writer u had all of them to write, and v has those that are left
pub record Leads (u v : Writer) (all left : List (List ℕ)) : Type 0 where
  pub same_buffer : v.out.ghost_name ≡ u.out.ghost_name
  pub text : written_all v.out.now v.at left ≡ written_all u.out.now u.at all

pub leads_start : {u : Writer} {all left : List (List ℕ)} → left ≡ all → Leads u u all left
leads_start {u} {all} {left} e = record { same_buffer = refl; text = ap (written_all u.out.now u.at) e }

-- the first of them are written
pub leads_on : {u v w : Writer} {all left xs rest : List (List ℕ)} → Leads u v all left → left ≡ xs ++ rest → Writes v w xs → Leads u w all rest
leads_on {u} {v} {w} {all} {left} {xs} {rest} l e p = record {
  same_buffer = p.same_buffer ∙ l.same_buffer;
  text = behind _ v.out.now w.out.now v.at w.at xs rest p.text refl ∙ ap (written_all v.out.now v.at) (sym e) ∙ l.text;
}

-- none is left
pub leads_end : {u v : Writer} {all left : List (List ℕ)} → Leads u v all left → left ≡ [] → Writes u v all
leads_end {u} {v} {all} {left} l e = record { same_buffer = l.same_buffer; text = none v.out.now v.at ∙ ap (written_all v.out.now v.at) (sym e) ∙ l.text }

pub append_in_turn : (xs ys : List (List ℕ)) (s : ℕ × List ℕ) → with_texts (xs ++ ys) s ≡ with_texts ys (with_texts xs s)
append_in_turn [] ys s = refl
append_in_turn (t ∷ xs) ys s = append_in_turn xs ys (with_text t s)
