-- The text of a reply, as texts that are written one behind the other.
use Rattle.std.specs.Prelude.{ℕ, List, [], ◌∷◌, ◌++◌, map, Float}
use Rattle.std.specs.Prelude.{Option, None, Some}
use Rattle.time.specs.Reply.{Reply, Carried, answer, refusal, nothing, norm, frame, hop}
use Rattle.geometry.specs.declared.vector3.Vector3.{Vector3}
use Rattle.geometry.specs.declared.quaternion.Quaternion.{Quaternion}
use Rattle.geometry.specs.declared.isometry.Isometry.{Isometry}
use Rattle.registry.specs.Answers.{Value}
use Rattle.registry.specs.Answers as value
use Rattle.text.specs.Writing.{number_text, float_text, byte_text}

-- the word `float`
abbrev pub float : List ℕ
float = 102 ∷ 108 ∷ 111 ∷ 97 ∷ 116 ∷ []

-- a space and a number; a space and a float
abbrev pub number_word : ℕ → List (List ℕ)
number_word n = (32 ∷ []) ∷ number_text n ∷ []

abbrev pub float_word : Float → List (List ℕ)
float_word x = (32 ∷ []) ∷ float_text x ∷ []

abbrev pub translation_texts : Vector3 → List (List ℕ)
translation_texts t = float_word t.x ++ (float_word t.y ++ float_word t.z)

abbrev pub rotation_texts : Quaternion → List (List ℕ)
rotation_texts q = float_word q.w ++ (float_word q.x ++ (float_word q.y ++ float_word q.z))

-- `pose` and seven floats
abbrev pub pose_texts : Isometry → List (List ℕ)
pose_texts p = (112 ∷ 111 ∷ 115 ∷ 101 ∷ []) ∷ (translation_texts p.translation ++ rotation_texts p.rotation)

-- the child and the range, or ` none`
abbrev pub hop_texts : ℕ → Option (ℕ × ℕ) → List (List ℕ)
hop_texts child None = number_word child ++ ((32 ∷ 110 ∷ 111 ∷ 110 ∷ 101 ∷ []) ∷ [])
hop_texts child (Some r) = number_word child ++ (number_word r.0 ++ number_word r.1)

abbrev pub carried_texts : Carried → List (List ℕ)
carried_texts nothing = []
carried_texts (norm x) = float_word x
carried_texts (frame f) = number_word f
carried_texts (hop child range) = hop_texts child range

-- `no`, the number, and what it carries
abbrev pub refusal_texts : ℕ → Carried → List (List ℕ)
refusal_texts k c = (110 ∷ 111 ∷ []) ∷ (number_word k ++ carried_texts c)

-- `at` and the instant
abbrev pub instant_texts : ℕ → List (List ℕ)
instant_texts t = (97 ∷ 116 ∷ []) ∷ number_word t

-- `done`, a pose, `static` or an instant
abbrev pub value_texts : Value → List (List ℕ)
value_texts value.done = (100 ∷ 111 ∷ 110 ∷ 101 ∷ []) ∷ []
value_texts (value.pose p) = pose_texts p
value_texts value.static = (115 ∷ 116 ∷ 97 ∷ 116 ∷ 105 ∷ 99 ∷ []) ∷ []
value_texts (value.at t) = instant_texts t

abbrev pub reply_texts : Reply Value → List (List ℕ)
reply_texts (answer v) = value_texts v
reply_texts (refusal k c) = refusal_texts k c

-- ---- maps

-- the word `none`
abbrev pub none_word : List ℕ
none_word = 110 ∷ 111 ∷ 110 ∷ 101 ∷ []

-- what a load replies; a record's refusal behind `record` and its number
abbrev pub load_texts : Option ℕ → Reply Value → List (List ℕ)
load_texts None r = reply_texts r
load_texts (Some n) r = (114 ∷ 101 ∷ 99 ∷ 111 ∷ 114 ∷ 100 ∷ []) ∷ (number_word n ++ ((32 ∷ []) ∷ reply_texts r))

-- `frame` and the number, `none`, or the refusal
abbrev pub frame_texts : Reply (Option ℕ) → List (List ℕ)
frame_texts (answer (Some k)) = (102 ∷ 114 ∷ 97 ∷ 109 ∷ 101 ∷ []) ∷ number_word k
frame_texts (answer None) = none_word ∷ []
frame_texts (refusal k c) = refusal_texts k c

-- `name` and its bytes, two digits each, `none`, or the refusal
abbrev pub name_texts : Reply (Option (List ℕ)) → List (List ℕ)
name_texts (answer (Some name)) = (110 ∷ 97 ∷ 109 ∷ 101 ∷ 32 ∷ []) ∷ map byte_text name
name_texts (answer None) = none_word ∷ []
name_texts (refusal k c) = refusal_texts k c
