-- The words of one row: its S instants and its 7 x S floats, with the held samples first and zeros after them.
use Rattle.std.specs.Prelude.{ℕ, zero, suc, ◌-◌, ◌*◌, ◌≤◌, ◌≡◌, Bool, true, cond, ◌&&◌, List, [], ◌∷◌, ◌++◌, length, get_or, take, drop, replicate, T, leb, ltb, eqb, Float, refl}
use Rattle.std.specs.Prelude.{Option}
use Rattle.std.specs.Float.{nan, binary64}
use Rattle.std.specs.Float.Ieee.{fits, to_bits, of_bits}
use Rattle.time.specs.Float.{zero64}
use Rattle.time.specs.Reply.{Reply, answer, refusal, nothing}
use Rattle.geometry.specs.declared.isometry.Isometry.{Isometry}
use Rattle.geometry.specs.Transform.{is_valid}
use Rattle.buffer.specs.declared.kind.Kind.{Kind}
use Rattle.buffer.specs.declared.kind.Kind.TheVariants.{Static, Dynamic}
use Rattle.buffer.specs.Map.{all, ascending, keys, rising}
use Rattle.buffer.specs.Samples.{Samples, newest, survives, insert, remove_before}

-- seven floats: translation x, y, z, then rotation w, x, y, z
abbrev pub floats : Isometry → List Float
floats p =
    p.translation.x ∷ p.translation.y ∷ p.translation.z
    ∷ p.rotation.w ∷ p.rotation.x ∷ p.rotation.y ∷ p.rotation.z ∷ []

-- the pose that the first seven floats are
abbrev pub pose_of : List Float → Isometry
pose_of l = record {
  translation = record { x = get_or l 0 zero64; y = get_or l 1 zero64; z = get_or l 2 zero64 };
  rotation = record { w = get_or l 3 zero64; x = get_or l 4 zero64; y = get_or l 5 zero64; z = get_or l 6 zero64 };
}

module _ {A B : Type 0} where
  -- the words of each, one after the other
  abbrev pub concat_map : (A → List B) → List A → List B
  concat_map f [] = []
  concat_map f (x ∷ xs) = f x ++ concat_map f xs

-- made n long with z
abbrev pub padded : {A : Type 0} → ℕ → A → List A → List A
padded n z xs = xs ++ replicate (n - length xs) z

-- the words of a row of this capacity that holds the samples
abbrev pub instant_words : ℕ → Samples → List ℕ
instant_words capacity m = padded capacity 0 (keys m)

abbrev pub pose_words : ℕ → Samples → List Float
pose_words capacity m = padded (7 * capacity) zero64 (concat_map (λ x. floats x.1) m)

-- the first `count` samples that a row's words hold
abbrev pub samples_of : ℕ → List ℕ → List Float → Samples
samples_of zero instants poses = []
samples_of (suc count) instants poses = (get_or instants 0 0, pose_of poses) ∷ samples_of count (drop 1 instants) (drop 7 poses)

-- ---- soundness, of one row

-- "a static row has count 1 and instant 0; a moving row has 0 to S strictly rising instants and, with the flag, none below the last less the age"
abbrev pub instants_sound : Option ℕ → ℕ → Kind → Samples → Bool
instants_sound age capacity Static m = eqb (length m) 1 && all (λ x. eqb x.0 0) m
instants_sound age capacity Dynamic m = leb (length m) capacity && rising m && all (λ x. survives age (newest m) x.0) m

-- "held poses pass `validate`"
abbrev pub poses_sound : Samples → Bool
poses_sound m = all (λ x. is_valid x.1) m

-- all 64 bits are 0: positive zero
abbrev pub is_zero : Float → Bool
is_zero x = eqb (to_bits binary64 x) 0

pub is_zero64 : is_zero zero64 ≡ true
unfolding to_bits of_bits
is_zero64 = refl

-- "every unused word is 0, positive zero for floats"
abbrev pub unused_zero : ℕ → List ℕ → List Float → Bool
unused_zero count instants poses = all (eqb 0) (drop count instants) && all is_zero (drop (7 * count) poses)

unfoldable pub row_sound : Option ℕ → Kind → ℕ → List ℕ → List Float → Bool
row_sound age kind count instants poses =
    leb count (length instants)
    && instants_sound age (length instants) kind (samples_of count instants poses)
    && poses_sound (samples_of count instants poses)
    && unused_zero count instants poses

-- ---- places among a row's held instants

-- how many of the numbers are below t
abbrev pub below : ℕ → List ℕ → ℕ
below t [] = 0
below t (i ∷ is) = cond (ltb i t) (suc (below t is)) (below t is)

-- what a search asks of its caller: the part of `Row` that speaks of instants alone
pub record Instants (count : ℕ) (instants : List ℕ) : Type 0 where
  pub fits : count ≤ length instants
  pub rises : ascending (take count instants) ≡ true

-- every float is one of an f64's values, as every element of a lent slice is
abbrev pub FloatsFit : List Float → Type 0
FloatsFit l = (i : ℕ) → T (fits binary64 (get_or l i nan))

-- ---- what the calls on a row leave

-- what this layer asks of its caller: lengths S and 7 x S, S at most 1,024, the held samples rising, zeros after them
pub record Row (count : ℕ) (instants : List ℕ) (poses : List Float) : Type 0 where
  pub bounded : length instants ≤ 1024
  pub fits : count ≤ length instants
  pub sevens : length poses ≡ 7 * length instants
  pub rises : rising (samples_of count instants poses) ≡ true
  pub unused : unused_zero count instants poses ≡ true

-- how many samples a row holds, or why not, and its words
pub record RowOutcome : Type 0 where
  pub count : Reply ℕ
  pub instants : List ℕ
  pub poses : List Float

abbrev pub outcome : Reply ℕ → List ℕ → List Float → RowOutcome
outcome count instants poses = record { count = count; instants = instants; poses = poses }

abbrev pub holding : ℕ → Samples → RowOutcome
holding capacity m = record { count = answer (length m); instants = instant_words capacity m; poses = pose_words capacity m }

-- refused as full, and unchanged, exactly when more than S samples would remain after expiry
unfoldable pub insert_row : Option ℕ → ℕ → Isometry → ℕ → List ℕ → List Float → RowOutcome
insert_row age i p count instants poses =
    let m = insert age i p (samples_of count instants poses) in
    cond (ltb (length instants) (length m))
    (record { count = refusal 17 nothing; instants = instants; poses = poses })
    (holding (length instants) m)

unfoldable pub remove_before_row : Kind → ℕ → ℕ → List ℕ → List Float → RowOutcome
remove_before_row kind i count instants poses = holding (length instants) (remove_before kind i (samples_of count instants poses))
