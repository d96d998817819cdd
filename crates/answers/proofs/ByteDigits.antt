-- The digits of bytes, written byte by byte. Assumes nothing.
use Rattle.std.proofs.Common.{◌≡◌, ap, sym, ◌∙◌, ℕ, ◌+◌, ◌≤◌, ◌<◌, List, map, length, drop, get_or, drop-cons, drop_of_length-le, add-one}
use Rattle.text.specs.Writing.{byte_text}
use Rattle.text.proofs.Behind.{with_text, with_texts}

module _ (bytes : List ℕ) (i : ℕ) (s : ℕ × List ℕ) where
  -- one byte, then those behind it
  pub digits_more : i < length bytes → with_texts (map byte_text (drop i bytes)) s ≡ with_texts (map byte_text (drop (i + 1) bytes)) (with_text (byte_text (get_or bytes i 0)) s)
  digits_more h = ap (λ (l : List ℕ). with_texts (map byte_text l) s) (drop-cons bytes i 0 h) ∙ ap (λ (n : ℕ). with_texts (map byte_text (drop n bytes)) (with_text (byte_text (get_or bytes i 0)) s)) (sym (add-one i))

  -- none is left
  pub digits_last : length bytes ≤ i → with_texts (map byte_text (drop i bytes)) s ≡ s
  digits_last h = ap (λ (l : List ℕ). with_texts (map byte_text l) s) (drop_of_length-le bytes h)
