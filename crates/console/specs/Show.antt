-- What `show` says of a lookup: lists of texts that are written one behind the other.
use Rattle.std.specs.Prelude.{ℕ, List, [], ◌∷◌, ◌++◌}
use Rattle.time.specs.Reply.{Reply, answer, refusal}
use Rattle.geometry.specs.declared.quaternion.Quaternion.{Quaternion}
use Rattle.geometry.specs.declared.isometry.Isometry.{Isometry}
use Rattle.registry.specs.Answers.{Value}
use Rattle.registry.specs.Answers as value
use Rattle.text.specs.Ascii.{ascii}
use Rattle.console.specs.Figures.{figure_texts, vector_texts, seconds_texts, frame_texts}
use Rattle.console.specs.Refusals.{refusal_texts}

-- what is asked: the source seen from the target, at an instant
unfoldable pub question_texts : ℕ → ℕ → ℕ → List (List ℕ)
question_texts target source t = frame_texts source ++ (ascii " seen from " ∷ (frame_texts target ++ (ascii " at " ∷ (seconds_texts t ++ (ascii "\n" ∷ [])))))

-- four figures, each behind its name
unfoldable pub rotation_texts : Quaternion → List (List ℕ)
rotation_texts q = ascii "rotation w " ∷ (figure_texts q.w ++ (ascii " x " ∷ (figure_texts q.x ++ (ascii " y " ∷ (figure_texts q.y ++ (ascii " z " ∷ figure_texts q.z))))))

-- a pose on two lines
unfoldable pub pose_texts : Isometry → List (List ℕ)
pose_texts p = ascii "translation " ∷ (vector_texts p.translation ++ (ascii "\n" ∷ rotation_texts p.rotation))

-- the pose that a lookup answers, or its refusal
abbrev pub answer_texts : Reply Value → List (List ℕ)
answer_texts (answer value.done) = []
answer_texts (answer (value.pose p)) = pose_texts p
answer_texts (answer value.static) = []
answer_texts (answer (value.at t)) = []
answer_texts (refusal k c) = refusal_texts (refusal k c)

-- the question and what the lookup replied, on lines of their own
abbrev pub show_texts : ℕ → ℕ → ℕ → Reply Value → List (List ℕ)
show_texts target source t reply = question_texts target source t ++ (answer_texts reply ++ (ascii "\n" ∷ []))
