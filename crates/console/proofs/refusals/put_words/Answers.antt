use Rattle.std.proofs.Common.{◌≡◌, ℕ, List, Bor, refl, ap, ◌∙◌}
use Rattle.std.specs.Prelude.{Option, None, Some, option_map, unwrap_or, slice_index_or}
use Rattle.std.specs.List.{slice_get}
use Rattle.std.proofs.lemmas.Iterator.Consumers.{nth_from_yields_List}
use Rattle.std.proofs.lemmas.Iterator.Splits.{YieldsList-from_lines}
use Rattle.std.proofs.lemmas.Option.{unwrap_or-slice_get}
use Rattle.console.specs.Refusals.{table, words}
use Rattle.console.proofs.refusals.put_words.Goals as goal

-- the text that was looked up, or another
text_or : (r : Option (Bor (List ℕ))) (other : Bor (List ℕ)) (texts : List (List ℕ)) (k : ℕ) → option_map (λ t. t.now) r ≡ slice_get texts k → (unwrap_or r other).now ≡ slice_index_or texts k other.now
text_or r other texts k e = of r ∙ ap (λ o. unwrap_or o other.now) e ∙ unwrap_or-slice_get texts k other.now
  where
    of : (r : Option (Bor (List ℕ))) → (unwrap_or r other).now ≡ unwrap_or (option_map (λ t. t.now) r) other.now
    of None = refl
    of (Some t) = refl

pub returns : goal.returns
unfolding words
returns c =
    let line : option_map (λ l. l.now) c.nth-words.result ≡ slice_get table c.args.number = nth_from_yields_List _ _ _ c.nth-words.ensures.ran (YieldsList-from_lines _ c.lines.ensures.rest) in
    rw (← (c.as_bytes.ensures.value ∙ ap (λ b. b.now) c.unwrap_or.ensures ∙ text_or _ _ table c.args.number line)) c.write_bytes.ensures
