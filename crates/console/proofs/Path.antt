-- What is told of a path, by where its climbs end and what the calls reply.
use Rattle.std.proofs.Common.{◌≡◌, ℕ, Bool, false, List, ◌++◌, nat_eq, eqb, sym}
use Rattle.std.specs.Prelude.{Result, Ok, Err, MatchResult}
use Rattle.geometry.specs.declared.isometry.Isometry.{Isometry}
use Rattle.registry.specs.declared.error.RegistryError.{RegistryError}
use Rattle.time.specs.Reply.{Reply}
use Rattle.text.specs.Ascii.{ascii}
use Rattle.registry.specs.Tree.{Tree}
use Rattle.registry.specs.Answers.{Value, refusal_of, replied, pose}
use Rattle.console.specs.Refusals.{refusal_number}
use Rattle.registry.specs.Path.{chain, until, climb_end, hops, lookup, common_time}
use Rattle.console.specs.Why.{hop_lines, climb_texts, side_texts, meeting_texts, common_texts, lookup_texts, path_texts}

-- the climb from f up to its end
abbrev pub side_to : List ℕ → Tree → ℕ → ℕ → ℕ → List (List ℕ)
side_to name t f end i = climb_texts name f end ++ hop_lines i (hops t (until (nat_eq end) (chain t f)))

pub path_by : (t : Tree) (target source i x y : ℕ) (common look : Reply Value)
    → x ≡ climb_end t target source → y ≡ climb_end t source target → common ≡ common_time t target source → look ≡ lookup t target source i
    → side_to (ascii "target") t target x i ++ (side_to (ascii "source") t source y i ++ (meeting_texts x y ++ (common_texts common ++ lookup_texts look))) ≡ path_texts t target source i
unfolding path_texts side_texts
path_by t target source i x y common look p q r s =
    λ j. side_to (ascii "target") t target (p j) i ++ (side_to (ascii "source") t source (q j) i ++ (meeting_texts (p j) (q j) ++ (common_texts (r j) ++ lookup_texts (s j))))

-- whether a lookup is refused since a frame is unknown
pub unknown_by : (seen : Result Isometry RegistryError) (b : Bool) → MatchResult seen (λ _. b ≡ false) (λ e. b ≡ eqb (refusal_of e).0 9) → eqb (refusal_number (replied pose seen)) 9 ≡ b
unknown_by (Ok p) b h = sym h
unknown_by (Err e) b h = sym h
