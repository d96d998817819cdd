-- The readings marked P, each computed.
use Prim.Native.Nat.{ℕ}
use mathlib.Core.Path.{◌≡◌, refl, ap, ◌∙◌}
use Rattle.std.specs.Prelude.{None, Some}
use mathlib.Core.List.{[], ◌∷◌}
use lib.Ieee.{nan, round, add, sub, mul, div, neg, lt, le, of_bits, of_int, to_bits}
use Rattle.time.specs.Timestamp.{as_secs_f64, share}
use Rattle.libm.specs.Sqrt.{sqrt_at}
use Rattle.libm.specs.Libm.{acos, sin}
use Rattle.geometry.specs.Quaternion.{normalize, rotate_vector, blend, arc, between, slerp}
use Rattle.geometry.specs.Isometry as isometry
use Rattle.geometry.specs.Transform.{validate}
use Rattle.buffer.specs.Samples.{served, Samples}
use Rattle.buffer.specs.Row.{row_sound}
use Rattle.registry.specs.Tree as tree
use Rattle.registry.specs.Store.{Store, encode, limits_of, row_instants, tree_of, stored, sized}
use Rattle.registry.specs.Sound.{no_circle, sound}
use Rattle.registry.specs.Path.{side, connected, ask, lookup, common_time}
use Rattle.registry.specs.Calls.{open_of, on_tree, add_of, lookup_of, common_time_of}
use Rattle.time.specs.Float.{zero64, one64, whole}
use Rattle.time.specs.Reply.{answer, refusal, nothing, hop}
use Rattle.geometry.specs.declared.isometry.Isometry.{Isometry}
use Rattle.geometry.specs.Isometry.{identity}
use Rattle.buffer.specs.declared.kind.Kind.TheVariants as kind
use Rattle.time.specs.declared.stamp.Stamp.TheVariants.{Static, At}
use Rattle.registry.specs.Tree.{Edge, Addition, addition}
use Rattle.registry.specs.Answers.{pose, at}
use Rattle.registry.specs.Readings.{Holds, ReadingsHold, readings, reading_at, reply, instants, drive, limits, moved, row2, after, ranges}

reading_0 : Holds (reading_at 0)
unfolding readings sqrt_at round add sub mul div neg lt le of_bits of_int to_bits as_secs_f64 share normalize rotate_vector blend arc between slerp acos sin isometry.finite isometry.product isometry.inverse isometry.inverse_with_rotation isometry.between isometry.interpolated validate served row_sound tree.add stored encode limits_of tree_of sized no_circle sound side connected ask lookup common_time open_of on_tree add_of lookup_of common_time_of
reading_0 = refl

reading_1 : Holds (reading_at 1)
unfolding readings sqrt_at round add sub mul div neg lt le of_bits of_int to_bits as_secs_f64 share normalize rotate_vector blend arc between slerp acos sin isometry.finite isometry.product isometry.inverse isometry.inverse_with_rotation isometry.between isometry.interpolated validate served row_sound tree.add stored encode limits_of tree_of sized no_circle sound side connected ask lookup common_time open_of on_tree add_of lookup_of common_time_of
reading_1 = refl

reading_2 : Holds (reading_at 2)
unfolding readings sqrt_at round add sub mul div neg lt le of_bits of_int to_bits as_secs_f64 share normalize rotate_vector blend arc between slerp acos sin isometry.finite isometry.product isometry.inverse isometry.inverse_with_rotation isometry.between isometry.interpolated validate served row_sound tree.add stored encode limits_of tree_of sized no_circle sound side connected ask lookup common_time open_of on_tree add_of lookup_of common_time_of
reading_2 = refl

reading_3 : Holds (reading_at 3)
unfolding readings sqrt_at round add sub mul div neg lt le of_bits of_int to_bits as_secs_f64 share normalize rotate_vector blend arc between slerp acos sin isometry.finite isometry.product isometry.inverse isometry.inverse_with_rotation isometry.between isometry.interpolated validate served row_sound tree.add stored encode limits_of tree_of sized no_circle sound side connected ask lookup common_time open_of on_tree add_of lookup_of common_time_of
reading_3 = refl

reading_4 : Holds (reading_at 4)
unfolding readings sqrt_at round add sub mul div neg lt le of_bits of_int to_bits as_secs_f64 share normalize rotate_vector blend arc between slerp acos sin isometry.finite isometry.product isometry.inverse isometry.inverse_with_rotation isometry.between isometry.interpolated validate served row_sound tree.add stored encode limits_of tree_of sized no_circle sound side connected ask lookup common_time open_of on_tree add_of lookup_of common_time_of
reading_4 = refl

-- the longer ones by the stores in between

edge : ℕ → Samples → Edge
edge p m = record { parent = p; kind = kind.Dynamic; samples = m }

two : ℕ → Isometry → ℕ → Isometry → Samples
two i p j q = (i, p) ∷ (j, q) ∷ []

still : ℕ → ℕ → Samples
still i j = two i identity j identity

-- child 2 under 1 at instant 10 in rows of age 5
aged : Store
aged = stored (limits (Some 5)) ((2, edge 1 ((10, identity) ∷ [])) ∷ [])

aged_is : after (Some 5) (row2 10 ∷ []) ≡ aged
unfolding readings sqrt_at round add sub mul div neg lt le of_bits of_int to_bits as_secs_f64 share normalize rotate_vector blend arc between slerp acos sin isometry.finite isometry.product isometry.inverse isometry.inverse_with_rotation isometry.between isometry.interpolated validate served row_sound tree.add stored encode limits_of tree_of sized no_circle sound side connected ask lookup common_time open_of on_tree add_of lookup_of common_time_of aged edge
aged_is = refl

kept : row_instants (add_of aged (row2 5)).store 0 ≡ 5 ∷ 10 ∷ []
unfolding readings sqrt_at round add sub mul div neg lt le of_bits of_int to_bits as_secs_f64 share normalize rotate_vector blend arc between slerp acos sin isometry.finite isometry.product isometry.inverse isometry.inverse_with_rotation isometry.between isometry.interpolated validate served row_sound tree.add stored encode limits_of tree_of sized no_circle sound side connected ask lookup common_time open_of on_tree add_of lookup_of common_time_of aged edge
kept = refl

dropped : row_instants (add_of aged (row2 4)).store 0 ≡ 10 ∷ 0 ∷ []
unfolding readings sqrt_at round add sub mul div neg lt le of_bits of_int to_bits as_secs_f64 share normalize rotate_vector blend arc between slerp acos sin isometry.finite isometry.product isometry.inverse isometry.inverse_with_rotation isometry.between isometry.interpolated validate served row_sound tree.add stored encode limits_of tree_of sized no_circle sound side connected ask lookup common_time open_of on_tree add_of lookup_of common_time_of aged edge
dropped = refl

reading_5 : Holds (reading_at 5)
unfolding readings
reading_5 = ap (λ (s : Store). instants (row_instants (add_of s (row2 5)).store 0)) aged_is ∙ ap instants kept

reading_6 : Holds (reading_at 6)
unfolding readings
reading_6 = ap (λ (s : Store). instants (row_instants (add_of s (row2 4)).store 0)) aged_is ∙ ap instants dropped

driven : Store
driven = stored (limits None) ((2, edge 1 (two 0 (moved zero64) 4000000000 (moved (whole 4)))) ∷ [])

drive_is : drive ≡ driven
unfolding readings sqrt_at round add sub mul div neg lt le of_bits of_int to_bits as_secs_f64 share normalize rotate_vector blend arc between slerp acos sin isometry.finite isometry.product isometry.inverse isometry.inverse_with_rotation isometry.between isometry.interpolated validate served row_sound tree.add stored encode limits_of tree_of sized no_circle sound side connected ask lookup common_time open_of on_tree add_of lookup_of common_time_of driven edge two
drive_is = refl

quarter : lookup_of driven 1 2 1000000000 ≡ answer (pose (moved one64))
unfolding readings sqrt_at round add sub mul div neg lt le of_bits of_int to_bits as_secs_f64 share normalize rotate_vector blend arc between slerp acos sin isometry.finite isometry.product isometry.inverse isometry.inverse_with_rotation isometry.between isometry.interpolated validate served row_sound tree.add stored encode limits_of tree_of sized no_circle sound side connected ask lookup common_time open_of on_tree add_of lookup_of common_time_of driven edge two
quarter = refl

late : lookup_of driven 1 2 4000000001 ≡ refusal 11 (hop 2 (Some (0, 4000000000)))
unfolding readings sqrt_at round add sub mul div neg lt le of_bits of_int to_bits as_secs_f64 share normalize rotate_vector blend arc between slerp acos sin isometry.finite isometry.product isometry.inverse isometry.inverse_with_rotation isometry.between isometry.interpolated validate served row_sound tree.add stored encode limits_of tree_of sized no_circle sound side connected ask lookup common_time open_of on_tree add_of lookup_of common_time_of driven edge two
late = refl

reading_7 : Holds (reading_at 7)
unfolding readings
reading_7 = ap (λ (s : Store). reply (lookup_of s 1 2 1000000000)) drive_is ∙ ap reply quarter

reading_8 : Holds (reading_at 8)
unfolding readings
reading_8 = ap (λ (s : Store). reply (lookup_of s 1 2 4000000001)) drive_is ∙ ap reply late

-- child 2 under 1 from a to b, then 3 under 2 at c, then also at d
half : ℕ → ℕ → Store
half a b = stored (limits None) ((2, edge 1 (still a b)) ∷ [])

most : ℕ → ℕ → ℕ → Store
most a b c = stored (limits None) ((2, edge 1 (still a b)) ∷ (3, edge 2 ((c, identity) ∷ [])) ∷ [])

full : ℕ → ℕ → ℕ → ℕ → Store
full a b c d = stored (limits None) ((2, edge 1 (still a b)) ∷ (3, edge 2 (still c d)) ∷ [])

abbrev third : ℕ → Addition
third i = addition 3 2 (At i) identity

abbrev Step1 : ℕ → ℕ → Type 0
Step1 a b = after None (row2 a ∷ row2 b ∷ []) ≡ half a b

abbrev Step2 : ℕ → ℕ → ℕ → Type 0
Step2 a b c = (add_of (half a b) (third c)).store ≡ most a b c

abbrev Step3 : ℕ → ℕ → ℕ → ℕ → Type 0
Step3 a b c d = (add_of (most a b c) (third d)).store ≡ full a b c d

ranges_is : (a b c d : ℕ) → Step1 a b → Step2 a b c → Step3 a b c d → ranges a b c d ≡ full a b c d
ranges_is a b c d p q r =
    ap (λ (s : Store). (add_of (add_of s (third c)).store (third d)).store) p ∙ ap (λ (s : Store). (add_of s (third d)).store) q ∙ r

meeting_1 : Step1 10 20
unfolding readings sqrt_at round add sub mul div neg lt le of_bits of_int to_bits as_secs_f64 share normalize rotate_vector blend arc between slerp acos sin isometry.finite isometry.product isometry.inverse isometry.inverse_with_rotation isometry.between isometry.interpolated validate served row_sound tree.add stored encode limits_of tree_of sized no_circle sound side connected ask lookup common_time open_of on_tree add_of lookup_of common_time_of half edge two still
meeting_1 = refl

meeting_2 : Step2 10 20 20
unfolding readings sqrt_at round add sub mul div neg lt le of_bits of_int to_bits as_secs_f64 share normalize rotate_vector blend arc between slerp acos sin isometry.finite isometry.product isometry.inverse isometry.inverse_with_rotation isometry.between isometry.interpolated validate served row_sound tree.add stored encode limits_of tree_of sized no_circle sound side connected ask lookup common_time open_of on_tree add_of lookup_of common_time_of half most edge two still
meeting_2 = refl

meeting_3 : Step3 10 20 20 30
unfolding readings sqrt_at round add sub mul div neg lt le of_bits of_int to_bits as_secs_f64 share normalize rotate_vector blend arc between slerp acos sin isometry.finite isometry.product isometry.inverse isometry.inverse_with_rotation isometry.between isometry.interpolated validate served row_sound tree.add stored encode limits_of tree_of sized no_circle sound side connected ask lookup common_time open_of on_tree add_of lookup_of common_time_of most full edge two still
meeting_3 = refl

meeting : common_time_of (full 10 20 20 30) 3 1 ≡ answer (at 20)
unfolding readings sqrt_at round add sub mul div neg lt le of_bits of_int to_bits as_secs_f64 share normalize rotate_vector blend arc between slerp acos sin isometry.finite isometry.product isometry.inverse isometry.inverse_with_rotation isometry.between isometry.interpolated validate served row_sound tree.add stored encode limits_of tree_of sized no_circle sound side connected ask lookup common_time open_of on_tree add_of lookup_of common_time_of full edge two still
meeting = refl

reading_9 : Holds (reading_at 9)
unfolding readings
reading_9 = ap (λ (s : Store). reply (common_time_of s 3 1)) (ranges_is 10 20 20 30 meeting_1 meeting_2 meeting_3) ∙ ap reply meeting

missing_1 : Step1 20 30
unfolding readings sqrt_at round add sub mul div neg lt le of_bits of_int to_bits as_secs_f64 share normalize rotate_vector blend arc between slerp acos sin isometry.finite isometry.product isometry.inverse isometry.inverse_with_rotation isometry.between isometry.interpolated validate served row_sound tree.add stored encode limits_of tree_of sized no_circle sound side connected ask lookup common_time open_of on_tree add_of lookup_of common_time_of half edge two still
missing_1 = refl

missing_2 : Step2 20 30 10
unfolding readings sqrt_at round add sub mul div neg lt le of_bits of_int to_bits as_secs_f64 share normalize rotate_vector blend arc between slerp acos sin isometry.finite isometry.product isometry.inverse isometry.inverse_with_rotation isometry.between isometry.interpolated validate served row_sound tree.add stored encode limits_of tree_of sized no_circle sound side connected ask lookup common_time open_of on_tree add_of lookup_of common_time_of half most edge two still
missing_2 = refl

missing_3 : Step3 20 30 10 19
unfolding readings sqrt_at round add sub mul div neg lt le of_bits of_int to_bits as_secs_f64 share normalize rotate_vector blend arc between slerp acos sin isometry.finite isometry.product isometry.inverse isometry.inverse_with_rotation isometry.between isometry.interpolated validate served row_sound tree.add stored encode limits_of tree_of sized no_circle sound side connected ask lookup common_time open_of on_tree add_of lookup_of common_time_of most full edge two still
missing_3 = refl

missing : common_time_of (full 20 30 10 19) 3 1 ≡ refusal 12 (hop 2 (Some (20, 30)))
unfolding readings sqrt_at round add sub mul div neg lt le of_bits of_int to_bits as_secs_f64 share normalize rotate_vector blend arc between slerp acos sin isometry.finite isometry.product isometry.inverse isometry.inverse_with_rotation isometry.between isometry.interpolated validate served row_sound tree.add stored encode limits_of tree_of sized no_circle sound side connected ask lookup common_time open_of on_tree add_of lookup_of common_time_of full edge two still
missing = refl

reading_10 : Holds (reading_at 10)
unfolding readings
reading_10 = ap (λ (s : Store). reply (common_time_of s 3 1)) (ranges_is 20 30 10 19 missing_1 missing_2 missing_3) ∙ ap reply missing

-- child 2 under 1, static
fixed : Store
fixed = stored (limits None) ((2, record { parent = 1; kind = kind.Static; samples = (0, identity) ∷ [] }) ∷ [])

fixed_is : after None (addition 2 1 Static identity ∷ []) ≡ fixed
unfolding readings sqrt_at round add sub mul div neg lt le of_bits of_int to_bits as_secs_f64 share normalize rotate_vector blend arc between slerp acos sin isometry.finite isometry.product isometry.inverse isometry.inverse_with_rotation isometry.between isometry.interpolated validate served row_sound tree.add stored encode limits_of tree_of sized no_circle sound side connected ask lookup common_time open_of on_tree add_of lookup_of common_time_of fixed
fixed_is = refl

circle : (add_of fixed (addition 1 2 Static (moved nan))).reply ≡ refusal 7 nothing
unfolding readings sqrt_at round add sub mul div neg lt le of_bits of_int to_bits as_secs_f64 share normalize rotate_vector blend arc between slerp acos sin isometry.finite isometry.product isometry.inverse isometry.inverse_with_rotation isometry.between isometry.interpolated validate served row_sound tree.add stored encode limits_of tree_of sized no_circle sound side connected ask lookup common_time open_of on_tree add_of lookup_of common_time_of fixed
circle = refl

reading_11 : Holds (reading_at 11)
unfolding readings
reading_11 = ap (λ (s : Store). reply (add_of s (addition 1 2 Static (moved nan))).reply) fixed_is ∙ ap reply circle

reading_12 : Holds (reading_at 12)
unfolding readings sqrt_at round add sub mul div neg lt le of_bits of_int to_bits as_secs_f64 share normalize rotate_vector blend arc between slerp acos sin isometry.finite isometry.product isometry.inverse isometry.inverse_with_rotation isometry.between isometry.interpolated validate served row_sound tree.add stored encode limits_of tree_of sized no_circle sound side connected ask lookup common_time open_of on_tree add_of lookup_of common_time_of
reading_12 = refl

pub readings_hold : ReadingsHold
unfolding readings
readings_hold = (reading_0, (reading_1, (reading_2, (reading_3, (reading_4, (reading_5, (reading_6, (reading_7, (reading_8, (reading_9, (reading_10, (reading_11, (reading_12, tt)))))))))))))
