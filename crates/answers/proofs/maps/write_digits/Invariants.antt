use Rattle.std.proofs.Common.{◌≡◌, map, drop}
use Rattle.text.specs.Writing.{byte_text}
use Rattle.text.proofs.Behind.{with_texts}
use Rattle.answers.proofs.maps.write_digits.Given as goal

-- the digits of all the bytes are those of the bytes that are left, behind what is written
abbrev pub invariant-loop-b : goal.invariant-loop-b
invariant-loop-b l =
    (l.w.out.ghost_name ≡ l.fn.w.out.ghost_name) × (with_texts (map byte_text l.bytes) (l.fn.w.at, l.fn.w.out.now) ≡ with_texts (map byte_text (drop l.b-index l.bytes)) (l.w.at, l.w.out.now))
