-- Narrowing hop by hop gives the latest common time of the hops, and of two frames from where the climbs from them end.
use Prim.Native.Nat.{ℕ}
use mathlib.Core.Path.{◌≡◌, refl, sym, ap, ◌∙◌}
use mathlib.Core.Bool.{true, cond}
use Rattle.std.specs.Prelude.{None, Some}
use lib.Dec.{eqb}
use mathlib.Core.List.{List, [], ◌∷◌, ◌++◌}
use borrow.Author.Tests.{eq-eqb, ne_eqb}
use Rattle.time.specs.Reply.{Reply, answer, refusal, nothing, ◌then◌}
use Rattle.buffer.specs.declared.coverage.Coverage.{Coverage}
use Rattle.buffer.specs.declared.coverage.Coverage.TheVariants.{AllTime, Range, Empty}
use Rattle.buffer.specs.Samples.{coverage}
use Rattle.registry.specs.Tree.{Tree}
use Rattle.registry.specs.Store.{Store, tree_of}
use Rattle.registry.specs.Sound.{SoundStore, no_circle}
use Rattle.registry.specs.Answers.{Value}
use Rattle.registry.specs.Path.{Hop, Span, span_then, spans, earliest_end, latest_start, meet}
use Rattle.registry.specs.paths.Edges.{OfTree}
use Rattle.registry.specs.paths.Walks.{hops_to, ask_known}
use Rattle.registry.specs.common_time.Spans.{CommonSpan, narrow, narrow_by, narrowed, agreed}
use Rattle.registry.proofs.paths.ClimbEnds.{EndAt}
use Rattle.registry.proofs.paths.AskEnds.{ask_ends}
use Rattle.registry.proofs.paths.SoundWalks.{sound_grounded, sound_ends}

-- by one span after the other
abbrev narrow_all : CommonSpan → List Span → CommonSpan
narrow_all c [] = c
narrow_all c (x ∷ xs) = narrow_all (narrow c x) xs

narrow_all_lem : (xs : List Span) (end : ℕ) (late : Span) → narrow_all (Some (end, late)) xs ≡ Some (earliest_end end xs, latest_start late xs)
narrow_all_lem [] end late = refl
narrow_all_lem (x ∷ xs) end late = narrow_all_lem xs _ _

agreed_meet : (xs : List Span) → agreed (narrow_all None xs) ≡ meet xs
agreed_meet [] = refl
agreed_meet (x ∷ xs) = rw (narrow_all_lem xs x.end x)

narrowed_spans : (hs : List Hop) (c : CommonSpan) → narrowed c hs ≡ (spans hs then λ xs. answer (narrow_all c xs))
narrowed_spans [] c = refl
narrowed_spans (h ∷ hs) c = by (coverage h.1.kind h.1.samples) (spans hs) (narrowed_spans hs)
  where
    by : (k : Coverage) (r : Reply (List Span)) → ((d : CommonSpan) → narrowed d hs ≡ (r then λ xs. answer (narrow_all d xs)))
        → (narrow_by c h.0 k then λ d. narrowed d hs) ≡ (span_then h.0 k r then λ xs. answer (narrow_all c xs))
    by AllTime r ih = ih c
    by (Range start end) (answer xs) ih = ih (narrow c (record { child = h.0; start = start; end = end }))
    by (Range start end) (refusal k d) ih = ih (narrow c (record { child = h.0; start = start; end = end }))
    by Empty r ih = refl

-- so the hops agree on what their ranges meet in
hops_agree : (hs : List Hop) → (narrowed None hs then agreed) ≡ (spans hs then meet)
hops_agree hs = ap (λ (r : Reply CommonSpan). r then agreed) (narrowed_spans hs None) ∙ go (spans hs)
  where
    go : (r : Reply (List Span)) → ((r then λ xs. answer (narrow_all None xs)) then agreed) ≡ (r then meet)
    go (answer xs) = agreed_meet xs
    go (refusal k d) = refl

narrowed_append : (a b : List Hop) (c : CommonSpan) → narrowed c (a ++ b) ≡ (narrowed c a then λ d. narrowed d b)
narrowed_append [] b c = refl
narrowed_append (h ∷ a) b c = go (narrow_by c h.0 (coverage h.1.kind h.1.samples)) (narrowed_append a b)
  where
    go : (r : Reply CommonSpan) → ((d : CommonSpan) → narrowed d (a ++ b) ≡ (narrowed d a then λ e. narrowed e b))
        → (r then λ d. narrowed d (a ++ b)) ≡ ((r then λ d. narrowed d a) then λ d. narrowed d b)
    go (answer d) ih = ih d
    go (refusal k x) ih = refl

-- the hops of two sides agree, one side after the other
sides_agree : (a b : List Hop) → (narrowed None a then λ c. narrowed c b then agreed) ≡ (spans (a ++ b) then meet)
sides_agree a b = assoc (narrowed None a) ∙ ap (λ (r : Reply CommonSpan). r then agreed) (sym (narrowed_append a b None)) ∙ hops_agree (a ++ b)
  where
    assoc : (r : Reply CommonSpan) → (r then λ c. narrowed c b then agreed) ≡ ((r then λ c. narrowed c b) then agreed)
    assoc (answer c) = refl
    assoc (refusal k d) = refl

-- ---- of two frames

abbrev pub common_known : Tree → ℕ → ℕ → Reply Value
common_known t f g = ask_known t f g (λ a b. spans (a ++ b) then meet) (λ a b. refusal 10 nothing)

-- the climbs over the head of a sound store end at x and y
module _ (s : Store) (ok : SoundStore s) (f g x y : ℕ) (ends : OfTree s.head (λ t. no_circle t ≡ true → EndAt t f g x y)) where
  abbrev t : Tree
  t = tree_of s

  known_ends : common_known t f g ≡ cond (eqb x y) (spans (hops_to t f x ++ hops_to t g y) then meet) (refusal 10 nothing)
  known_ends = ask_ends (λ a b. spans (a ++ b) then meet) (λ a b. refusal 10 nothing) t f g (sound_grounded s ok) x y (sound_ends s ok f g x y ends)

  pub common_apart : (x ≡ y → ⊥) → refusal 10 nothing ≡ common_known t f g
  common_apart ne = sym (known_ends ∙ rw (ne_eqb x y ne))

  -- the target's side narrows to a, and then the source's
  pub common_meets : x ≡ y → (a : Reply CommonSpan) → a ≡ narrowed None (hops_to t f x) → (a then λ c. narrowed c (hops_to t g y) then agreed) ≡ common_known t f g
  common_meets e a p = rw p (sides_agree (hops_to t f x) (hops_to t g y) ∙ sym (known_ends ∙ rw (eq-eqb x y e)))
