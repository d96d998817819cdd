-- A record's bytes, part by part: it is read exactly where they are written. Assumes nothing.
use Prim.Native.Nat.{ℕ, ◌*◌, ◌^◌}
use mathlib.Core.Path.{◌≡◌, refl, sym, ap, ◌∙◌, subst}
use mathlib.Core.Bool.{Bool, true, ◌&&◌}
use Rattle.std.specs.Prelude.{Some}
use Rattle.time.proofs.Options.{Some-injective}
use mathlib.Core.List.{List, ◌++◌, append_assoc}
use borrow.Author.Tests.{eqb-true}
use lib.Dec.{eqb, ltb}
use lib.ListN.{length}
use Rattle.buffer.specs.Map.{all}
use Rattle.buffer.specs.Row.{concat_map}
use Rattle.buffer.proofs.Cases.{and_both, and_left, and_right}
use Rattle.buffer.proofs.Strides.{length_concat}
use Rattle.map_file.specs.Form.{Record, times, number_bytes, number_from, name_bytes, name_fits, name_from, record_bytes, record_fits, record_from}
use Rattle.map_file.specs.Laws.{Bytes}
use Rattle.map_file.proofs.Steps.{steps}
use Rattle.map_file.proofs.BothWays.{BothWays, left_bytes, number_ways, name_ways, times_ways}

-- the floats of a pose, as their bits
abbrev word_fits : ℕ → Bool
word_fits w = ltb w (2 ^ 64)

pose_ways : BothWays (times 7 (number_from 8)) (concat_map (number_bytes 8)) (λ ws. eqb (length ws) 7 && all word_fits ws)
pose_ways = times_ways (number_from 8) (number_bytes 8) word_fits (number_ways 8) 7

module _ (r : Record) where
  pub record_split : (rest : List ℕ) → record_bytes r ++ rest ≡ name_bytes r.child ++ (name_bytes r.parent ++ (concat_map (number_bytes 8) r.pose ++ rest))
  record_split rest =
      append_assoc (name_bytes r.child) (name_bytes r.parent ++ concat_map (number_bytes 8) r.pose) rest
      ∙ ap (λ (l : List ℕ). name_bytes r.child ++ l) (append_assoc (name_bytes r.parent) (concat_map (number_bytes 8) r.pose) rest)

  fits_made : name_fits r.child ≡ true → name_fits r.parent ≡ true → (eqb (length r.pose) 7 && all word_fits r.pose) ≡ true → record_fits r ≡ true
  fits_made c p w = and_both _ _ (and_both _ _ (and_both _ _ c p) (and_left _ _ w)) (and_right (eqb (length r.pose) 7) _ w)

  -- seven words, and their bytes
  pub seven_words : record_fits r ≡ true → length r.pose ≡ 7
  seven_words h =
      let names = name_fits r.child && name_fits r.parent in
      eqb-true (length r.pose) 7 (and_right names _ (and_left (names && eqb (length r.pose) 7) _ h))

  pub pose_length : record_fits r ≡ true → length (concat_map (number_bytes 8) r.pose) ≡ 56
  pose_length h = length_concat (number_bytes 8) 8 (λ n. refl) r.pose ∙ ap (λ (k : ℕ). 8 * k) (seven_words h)

forth : (bytes : List ℕ) (r : Record) (rest : List ℕ) → Bytes bytes → record_from bytes ≡ Some (r, rest) → (bytes ≡ record_bytes r ++ rest) × (record_fits r ≡ true)
unfolding record_from
forth bytes r rest h e =
    let c = steps (name_from bytes) _ (r, rest) e in
    let p = steps (name_from c.rest) _ (r, rest) c.more in
    let w = steps (times 7 (number_from 8) p.rest) _ (r, rest) p.more in
    let wc = name_ways.forth bytes c.first c.rest h c.read in
    let hc = left_bytes bytes (name_bytes c.first) c.rest h wc.0 in
    let wp = name_ways.forth c.rest p.first p.rest hc p.read in
    let hp = left_bytes c.rest (name_bytes p.first) p.rest hc wp.0 in
    let ww = pose_ways.forth p.rest w.first w.rest hp w.read in
    let made : Record = record { child = c.first; parent = p.first; pose = w.first } in
    subst (λ (x : Record × List ℕ). (bytes ≡ record_bytes x.0 ++ x.1) × (record_fits x.0 ≡ true)) (Some-injective _ _ w.more) (
      wc.0 ∙ ap (λ (l : List ℕ). name_bytes c.first ++ l) (wp.0 ∙ ap (λ (l : List ℕ). name_bytes p.first ++ l) ww.0) ∙ sym (record_split made w.rest),
      fits_made made wc.1 wp.1 ww.1,
    )

back : (r : Record) (rest : List ℕ) → record_fits r ≡ true → record_from (record_bytes r ++ rest) ≡ Some (r, rest)
unfolding record_from
back r rest f =
    let names = name_fits r.child && name_fits r.parent in
    let three = and_left (names && eqb (length r.pose) 7) _ f in
    let pair : names ≡ true = and_left names _ three in
    let ws = concat_map (number_bytes 8) r.pose in
    let words : (eqb (length r.pose) 7 && all word_fits r.pose) ≡ true = and_both _ _ (and_right names _ three) (and_right (names && eqb (length r.pose) 7) _ f) in
    ap record_from (record_split r rest)
    ∙ rw (
      name_ways.back r.child (name_bytes r.parent ++ (ws ++ rest)) (and_left _ _ pair),
      name_ways.back r.parent (ws ++ rest) (and_right (name_fits r.child) _ pair),
      pose_ways.back r.pose rest words,
    )

pub record_ways : BothWays record_from record_bytes record_fits
record_ways = record { forth = forth; back = back }
