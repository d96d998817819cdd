-- What the moves of a slice's elements leave, and what is written over, put in and taken out.
use mathlib.Core.Path.{◌≡◌, sym, ◌∙◌}
use mathlib.Core.List.{List, ◌++◌, append_assoc}
use Prim.Native.Nat.{ℕ, ◌+◌, ◌-◌, ◌≤◌}
use native.Mathlib.Omega.{arith}
use lib.ListN.{length, take, drop, replicate, length-append, length-take, length-drop, length-replicate, take-append-drop}
use lib.Seq.{length-take-le, take-append-le, take-take, drop-drop, drop_at, take_at}
use borrow.Rule.Slice.PartMut.{mid_of, put_mid}
use Rattle.std.specs.List.{copy_within}
use Rattle.buffer.specs.Words.{moved_up, moved_down, replaced, inserted, removed}

module _ {A : Type 0} where
  -- ---- the library's copy within a slice

  pub up_copied : (at e g : ℕ) (l : List A) → at ≤ e → copy_within l at e (at + g) ≡ moved_up at e g l
  unfolding moved_up
  up_copied at e g l h =
      let q : at + g + (e - at) ≡ e + g = omega arith in
      rw q (append_assoc (take (at + g) l) (take (e - at) (drop at l)) (drop (e + g) l))

  pub length_up : (i e g : ℕ) (l : List A) → i ≤ e → e + g ≤ length l → length (moved_up i e g l) ≡ length l
  unfolding moved_up
  length_up i e g l h k = simp (length-append, length-take, length-drop) (omega arith)

  -- ---- a part written over, as a `&mut` part leaves it

  pub put_replaced : (at g : ℕ) (v l : List A) → length v ≡ g → put_mid at g l v ≡ replaced at v l
  unfolding replaced
  put_replaced at g v l q = rw (q, drop-drop g at l)

  -- v written into the gap that a move up leaves
  pub up_put : (at e g : ℕ) (l v : List A) → length v ≡ g → at ≤ e → e + g ≤ length l → replaced at v (moved_up at e g l) ≡ inserted at e v l
  unfolding moved_up replaced inserted
  up_put at e g l v q h k =
      let R : List A = take (e - at) (drop at l) ++ drop (e + g) l in
      let n : length (take (at + g) l) ≡ at + g = length-take-le (at + g) l (omega arith) in
      let a : take at (take (at + g) l ++ R) ≡ take at l =
      take-append-le at (take (at + g) l) R (omega arith) ∙ take-take at (at + g) l (omega arith) in
      rw (q, a, drop_at (take (at + g) l) R (at + g) n)

  -- the same as the code leaves it: c in the part that begins at `at`, whose width is w there
  pub put_inserted : (at e g w : ℕ) (l m v c : List A) → at ≤ e → e + g ≤ length l → w ≡ g → length v ≡ g
      → m ≡ moved_up at e g l → c ≡ v → put_mid at w m c ≡ inserted at e v l
  put_inserted at e g w l m v c h k n q p r = rw (n, p, r) (put_replaced at g v (moved_up at e g l) q ∙ up_put at e g l v q h k)

  pub zeros_inserted : (at e g w : ℕ) (z : A) (l m c : List A) → at ≤ e → e + g ≤ length l → w ≡ g
      → m ≡ moved_up at e g l → c ≡ replicate (length (mid_of at w m)) z → put_mid at w m c ≡ inserted at e (replicate g z) l
  zeros_inserted at e g w z l m c h k n p r =
      let wide : at + g ≤ length m = rw (p, length_up at e g l h k) (omega arith) in
      let s : length (mid_of at w m) ≡ g = rw n (length-take-le g (drop at m) (rw length-drop (omega arith))) in
      put_inserted at e g w l m (replicate g z) c h k n (length-replicate g z) p (rw s at r)

  pub removed_none : (g e : ℕ) (z : A) (l : List A) → g ≡ 0 → l ≡ removed g e z l
  unfolding removed
  removed_none g e z l q =
      let s : e - 0 ≡ e = omega arith in
      rw (q, s) (sym (take-append-drop e l))

  -- the elements that a move down leaves behind, cleared
  pub down_clear : (g e : ℕ) (z : A) (l m c : List A) → g ≤ e → e ≤ length l → m ≡ moved_down g e l
      → c ≡ replicate (length (mid_of (e - g) (e - (e - g)) m)) z → put_mid (e - g) (e - (e - g)) m c ≡ removed g e z l
  unfolding moved_down removed
  down_clear g e z l m c h k p r =
      let q : e - (e - g) ≡ g = omega arith in
      let P : List A = take (e - g) (drop g l) in
      let n : length P ≡ e - g = length-take-le (e - g) (drop g l) (rw length-drop (omega arith)) in
      let a : drop (e - g) (P ++ drop (e - g) l) ≡ drop (e - g) l = drop_at P (drop (e - g) l) (e - g) n in
      let s : e - g + g ≡ e = omega arith in
      let t : length (take g (drop (e - g) l)) ≡ g = length-take-le g (drop (e - g) l) (rw length-drop (omega arith)) in
      rw (r, p, q, a, t, take_at P (drop (e - g) l) (e - g) n, drop-drop g (e - g) l, s)
