-- What the moves and stores of a row's calls leave are the words of the samples that remain.
use Prim.Native.Nat.{ℕ, suc, ◌+◌, ◌-◌, ◌*◌, ◌≤◌, ◌<◌, max}
use mathlib.Core.Path.{◌≡◌, refl, sym, ap, ◌∙◌, fun_ext}
use mathlib.Core.Bool.{Bool, cond}
use Rattle.std.specs.Prelude.{Option, None, Result, Ok, Err, OnErr}
use mathlib.Core.List.{List, [], ◌∷◌, ◌++◌}
use native.Mathlib.Nat.{one-mul, le_of_suc-le-suc}
use native.Mathlib.Numerals.{add-one}
use native.Mathlib.Omega.{arith}
use lib.Dec.{ltb, leb}
use lib.ListN.{length, get_or, set, take, drop, length-append, length-take, length-drop, length-set, get_or-map}
use lib.Seq.{map-set_same}
use lib.Ieee.{Float}
use borrow.Author.Tests.{lt-ltb, le-ltb, le-leb, lt-leb, ltb-true, ltb-false}
use Rattle.time.specs.Float.{zero64}
use Rattle.time.specs.Reply.{Carried, answer, refusal, nothing, reply_by, ◌then◌}
use Rattle.time.proofs.Replies.{refusal_answer}
use Rattle.geometry.specs.declared.isometry.Isometry.{Isometry}
use Rattle.buffer.specs.declared.error.InsertError.{InsertError}
use Rattle.buffer.specs.Answers.{insert_refusal_of}
use Rattle.buffer.specs.Map.{keys, put, keep}
use Rattle.buffer.specs.Samples.{Samples, newest, survives, insert}
use Rattle.buffer.specs.Words.{replaced, inserted, removed}
use Rattle.buffer.specs.Row.{floats, instant_words, pose_words, padded, samples_of, below, Row, RowOutcome, outcome, holding, insert_row, FloatsFit}
use Rattle.buffer.proofs.Cases.{both}
use Rattle.buffer.proofs.Maps.{Rising, rising_drop, keep_put, keep_put_dropped, length_keep_le, length_put_le}
use Rattle.buffer.proofs.SampleLaws.{newest_put, rising_insert}
use Rattle.buffer.proofs.RowBack.{length_samples_of, read_back, length_instant_words, words_row, instants_are, poses_are}
use Rattle.buffer.proofs.Strides.{insert_block, replace_block, remove_blocks}
use Rattle.buffer.proofs.RowWords.{word, block, instant_blocks}
use Rattle.buffer.proofs.Places.{cut, place_le, keep_from, put_new, put_held, row_held, rising_held, key_at, place_cut}

-- ---- the words of a row of this capacity that holds n samples

module _ (capacity n : ℕ) (m : Samples) (e : length m ≡ n) where
  removed_instants : (d : ℕ) → d ≤ n → n ≤ capacity → removed d n 0 (instant_words capacity m) ≡ instant_words capacity (drop d m)
  removed_instants d h g =
      (λ i. removed (sym (one-mul d) i) ((sym (one-mul n) ∙ ap (λ (k : ℕ). 1 * k) (sym e)) i) 0 (instant_blocks capacity m i))
      ∙ remove_blocks word 1 (λ x. refl) capacity 0 d m (rw e h) (rw e g)
      ∙ sym (instant_blocks capacity (drop d m))

  removed_poses : (d : ℕ) → d ≤ n → n ≤ capacity → removed (7 * d) (7 * n) zero64 (pose_words capacity m) ≡ pose_words capacity (drop d m)
  removed_poses d h g =
      (λ i. removed (7 * d) (7 * sym e i) zero64 (pose_words capacity m))
      ∙ remove_blocks block 7 (λ x. refl) capacity zero64 d m (rw e h) (rw e g)

  inserted_instants : (k t : ℕ) (p : Isometry) → k ≤ n → inserted k n (t ∷ []) (instant_words capacity m) ≡ instant_words capacity (take k m ++ (t, p) ∷ drop k m)
  inserted_instants k t p h =
      (λ i. inserted (sym (one-mul k) i) ((sym (one-mul n) ∙ ap (λ (k : ℕ). 1 * k) (sym e)) i) (t ∷ []) (instant_blocks capacity m i))
      ∙ insert_block word 1 (λ x. refl) capacity 0 k (t, p) m (rw e h)
      ∙ sym (instant_blocks capacity (take k m ++ (t, p) ∷ drop k m))

  inserted_poses : (k t : ℕ) (p : Isometry) → k ≤ n → inserted (7 * k) (7 * n) (floats p) (pose_words capacity m) ≡ pose_words capacity (take k m ++ (t, p) ∷ drop k m)
  inserted_poses k t p h =
      (λ i. inserted (7 * k) (7 * sym e i) (floats p) (pose_words capacity m))
      ∙ insert_block block 7 (λ x. refl) capacity zero64 k (t, p) m (rw e h)

  replaced_instants : (k t : ℕ) (p : Isometry) → get_or (keys m) k 0 ≡ t → instant_words capacity m ≡ instant_words capacity (set m k (t, p))
  replaced_instants k t p q =
      let d : ℕ × Isometry = (0, p) in
      ap (padded capacity 0) (sym (map-set_same (λ x. x.0) m k (t, p) d (sym q ∙ get_or-map (λ x. x.0) m k d)))

  replaced_poses : (k t : ℕ) (p : Isometry) → k < n → replaced (7 * k) (floats p) (pose_words capacity m) ≡ pose_words capacity (set m k (t, p))
  replaced_poses k t p h = replace_block block 7 (λ x. refl) capacity zero64 k (t, p) m (rw e h)

-- ---- what a call leaves

-- refused as full, unless there is room
abbrev unless_full : List ℕ → List Float → Samples → RowOutcome
unless_full ts fs m = cond (ltb (length ts) (length m)) (outcome (refusal 17 nothing) ts fs) (holding (length ts) m)

roomy : (ts : List ℕ) (fs : List Float) (m : Samples) → length m ≤ length ts → unless_full ts fs m ≡ holding (length ts) m
roomy ts fs m h = rw (le-ltb (length ts) (length m) h)

full : (ts : List ℕ) (fs : List Float) (m : Samples) → length ts < length m → unless_full ts fs m ≡ outcome (refusal 17 nothing) ts fs
full ts fs m h = rw (lt-ltb (length ts) (length m) h)

-- the words of rising samples are a row
pub holding_row : (capacity : ℕ) (m : Samples) (c : ℕ) (us : List ℕ) (gs : List Float) → capacity ≤ 1024 → length m ≤ capacity → Rising m
    → outcome (answer c) us gs ≡ holding capacity m → Row c us gs
holding_row capacity m c us gs b h r w =
    let count : c ≡ length m = counted (ap (λ (o : RowOutcome). o.count) w) in
    let instants : us ≡ instant_words capacity m = ap (λ (o : RowOutcome). o.instants) w in
    let poses : gs ≡ pose_words capacity m = ap (λ (o : RowOutcome). o.poses) w in
    rw (count, instants, poses) (words_row capacity m b h r)
  where
    counted : answer c ≡ answer (length m) → c ≡ length m
    counted e = cc e

insert_none : (t : ℕ) (p : Isometry) (m : Samples) → insert None t p m ≡ put t p m
insert_none t p m = keep_every (put t p m)
  where
    keep_every : (s : Samples) → keep (survives None (newest (put t p m))) s ≡ s
    keep_every [] = refl
    keep_every (x ∷ s) = ap {B = Samples} (λ r. x ∷ r) (keep_every s)

module _ (n : ℕ) (ts : List ℕ) (fs : List Float) (row : Row n ts fs) where
  abbrev held : Samples
  held = samples_of n ts fs

  how_many : length held ≡ n
  how_many = length_samples_of n ts fs

  ts_are : ts ≡ instant_words (length ts) held
  ts_are = instants_are n ts fs row.fits row.unused

  fs_are : FloatsFit fs → fs ≡ pose_words (length ts) held
  fs_are fit = poses_are n ts fs row.fits row.unused row.sevens fit

  rises : Rising held
  rises = rising_held n ts fs (row_held n ts fs row)

  -- the first k taken out
  pub first_dropped : FloatsFit fs → (k : ℕ) → k ≤ n → (us : List ℕ) (gs : List Float) → us ≡ removed k n 0 ts → gs ≡ removed (7 * k) (7 * n) zero64 fs
      → outcome (answer (n - k)) us gs ≡ holding (length ts) (drop k held)
  first_dropped fit k h us gs u g =
      let c : n - k ≡ length (drop k held) = ap (λ (i : ℕ). i - k) (sym how_many) ∙ sym (length-drop k held) in
      let a : us ≡ instant_words (length ts) (drop k held) = u ∙ ap (removed k n 0) ts_are ∙ removed_instants (length ts) n held how_many k h row.fits in
      let b : gs ≡ pose_words (length ts) (drop k held) =
      g ∙ ap (removed (7 * k) (7 * n) zero64) (fs_are fit) ∙ removed_poses (length ts) n held how_many k h row.fits in
      λ i. outcome (answer (c i)) (a i) (b i)

  pub dropped_row : (k c : ℕ) (us : List ℕ) (gs : List Float) → outcome (answer c) us gs ≡ holding (length ts) (drop k held) → Row c us gs
  dropped_row k c us gs w =
      holding_row (length ts) (drop k held) c us gs row.bounded (omega (arith, row.fits, how_many, length-drop k held)) (rising_drop k held rises) w

  -- what an insertion leaves is a row, where it is not refused
  pub inserted_row : (age : Option ℕ) (t : ℕ) (p : Isometry) (c : ℕ) (us : List ℕ) (gs : List Float) → outcome (answer c) us gs ≡ insert_row age t p n ts fs → Row c us gs
  unfolding insert_row
  inserted_row age t p c us gs w =
      let m : Samples = insert age t p held in
      both (ltb (length ts) (length m))
      (λ e. absurd (refusal_answer (sym (ap (λ (o : RowOutcome). o.count) (w ∙ full ts fs m (ltb-true (length ts) (length m) e))))))
      (λ e.
      let room : length m ≤ length ts = ltb-false (length ts) (length m) e in
      holding_row (length ts) m c us gs row.bounded room (rising_insert age t p held rises) (w ∙ roomy ts fs m room))

  module _ (t k : ℕ) (q : k ≡ below t (take n ts)) where
    place_of : k ≡ cut t held
    place_of = place_cut n ts fs (row_held n ts fs row) t k q

    at_most : k ≤ n
    at_most = place_le n ts (row_held n ts fs row) t k q

    -- those before t taken out
    pub dropped_before : drop k held ≡ keep (leb t) held
    dropped_before = ap (λ (i : ℕ). drop i held) place_of ∙ sym (keep_from t held rises)

    -- ---- a sample put in, whatever its age

    abbrev New : Type 0
    New = k < n → get_or ts k 0 ≡ t → ⊥

    pub replaces : FloatsFit fs → (p : Isometry) → k < n → get_or ts k 0 ≡ t → (gs : List Float) → gs ≡ replaced (7 * k) (floats p) fs → outcome (answer n) ts gs ≡ insert_row None t p n ts fs
    unfolding insert_row
    replaces fit p h e gs g =
        let at : cut t held < length held = rw (sym place_of, how_many) h in
        let key : get_or (keys held) k 0 ≡ t = key_at n ts fs (row_held n ts fs row) k h ∙ e in
        let i : insert None t p held ≡ set held k (t, p) =
        insert_none t p held
        ∙ put_held t p held rises at (ap (λ (j : ℕ). get_or (keys held) j 0) (sym place_of) ∙ key)
        ∙ ap (λ (j : ℕ). set held j (t, p)) (sym place_of) in
        let c : n ≡ length (set held k (t, p)) = sym (length-set held k (t, p) ∙ how_many) in
        let a : ts ≡ instant_words (length ts) (set held k (t, p)) = ts_are ∙ replaced_instants (length ts) n held how_many k t p key in
        let b : gs ≡ pose_words (length ts) (set held k (t, p)) =
        g ∙ ap (replaced (7 * k) (floats p)) (fs_are fit) ∙ replaced_poses (length ts) n held how_many k t p h in
        (λ j. outcome (answer (c j)) (a j) (b j)) ∙ sym (ap (unless_full ts fs) i ∙ roomy ts fs (set held k (t, p)) (omega (arith, row.fits)))

    put_is : (p : Isometry) → New → insert None t p held ≡ take k held ++ (t, p) ∷ drop k held
    put_is p ne =
        insert_none t p held
        ∙ put_new t p held rises (λ h e. let g : k < n = omega (arith, place_of, how_many) in ne g (sym (key_at n ts fs (row_held n ts fs row) k g) ∙ ap (λ (j : ℕ). get_or (keys held) j 0) place_of ∙ e))
        ∙ ap (λ (j : ℕ). take j held ++ (t, p) ∷ drop j held) (sym place_of)

    length_new : (p : Isometry) → length (take k held ++ (t, p) ∷ drop k held) ≡ suc n
    length_new p =
        let l = how_many in
        let h = at_most in
        simp (length-append, length-take, length-drop) (omega arith)

    pub refuses : (p : Isometry) → n ≡ length ts → New → outcome (refusal 17 nothing) ts fs ≡ insert_row None t p n ts fs
    unfolding insert_row
    refuses p f ne =
        let s : Samples = take k held ++ (t, p) ∷ drop k held in
        sym (ap (unless_full ts fs) (put_is p ne) ∙ full ts fs s (omega (arith, length_new p)))

    pub inserts : FloatsFit fs → (p : Isometry) → n < length ts → New
        → (us : List ℕ) (gs : List Float) → us ≡ inserted k n (t ∷ []) ts → gs ≡ inserted (7 * k) (7 * n) (floats p) fs
        → outcome (answer (n + 1)) us gs ≡ insert_row None t p n ts fs
    unfolding insert_row
    inserts fit p f ne us gs u g =
        let s : Samples = take k held ++ (t, p) ∷ drop k held in
        let c : n + 1 ≡ length s = add-one n ∙ sym (length_new p) in
        let a : us ≡ instant_words (length ts) s = u ∙ ap (inserted k n (t ∷ [])) ts_are ∙ inserted_instants (length ts) n held how_many k t p at_most in
        let b : gs ≡ pose_words (length ts) s =
        g ∙ ap (inserted (7 * k) (7 * n) (floats p)) (fs_are fit) ∙ inserted_poses (length ts) n held how_many k t p at_most in
        (λ j. outcome (answer (c j)) (a j) (b j)) ∙ sym (ap (unless_full ts fs) (put_is p ne) ∙ roomy ts fs s (omega (arith, length_new p)))

-- what holds where a sample is refused, from the outcome that says so
pub on_refusal : (r : Result (Unit {0}) InsertError) (n : ℕ) (us : List ℕ) (gs : List Float) (o : RowOutcome) {P Q : Type 0} → OnErr r P
    → outcome (reply_by insert_refusal_of r then λ _. answer n) us gs ≡ o → ((k : ℕ) (d : Carried) → outcome (refusal k d) us gs ≡ o → P → Q) → OnErr r Q
on_refusal (Ok u) n us gs o p w f = tt
on_refusal (Err e) n us gs o p w f = f _ _ w p

-- ---- with an age

-- nothing is dropped where as many are kept
keep_whole : (ok : ℕ → Bool) (m : Samples) → length m ≤ length (keep ok m) → keep ok m ≡ m
keep_whole ok [] h = refl
keep_whole ok (x ∷ m) h =
    let ih = keep_whole ok m in
    both (ok x.0)
    (λ e. rw e (ap {B = Samples} (λ r. x ∷ r) (ih (le_of_suc-le-suc (rw e at h)))))
    (λ e. let g : suc (length m) ≤ length (keep ok m) = rw e at h in absurd (omega (arith, length_keep_le ok m)))

-- The words us and gs of r samples hold what survives of a row, from `since` on: what is then put in or not.
pub record Expired (age : Option ℕ) (t : ℕ) (p : Isometry) (n : ℕ) (ts : List ℕ) (fs : List Float) (since r : ℕ) (us : List ℕ) (gs : List Float) : Type 0 where
  pub too_old : t < since → outcome (answer r) us gs ≡ insert_row age t p n ts fs
  pub held_too : since ≤ t → insert_row None t p r us gs ≡ insert_row age t p n ts fs
  -- where that is refused, nothing was dropped
  pub whole : (k : ℕ) (d : Carried) (vs : List ℕ) (hs : List Float) → outcome (refusal k d) vs hs ≡ insert_row None t p r us gs → r ≡ n

module _ (n : ℕ) (ts : List ℕ) (fs : List Float) (row : Row n ts fs) (fit : FloatsFit fs)
    (age : Option ℕ) (t : ℕ) (p : Isometry) (latest since : ℕ) (late : latest ≡ max t (newest (samples_of n ts fs)))
    (s : (i : ℕ) → survives age latest i ≡ leb since i) where
  abbrev all_of : Samples
  all_of = samples_of n ts fs

  -- what survives of the samples held before
  abbrev kept_of : Samples
  kept_of = keep (leb since) all_of

  insert_is : insert age t p all_of ≡ keep (leb since) (put t p all_of)
  insert_is =
      let q : newest (put t p all_of) ≡ latest = newest_put t p all_of ∙ sym late in
      ap (λ (l : ℕ). keep (survives age l) (put t p all_of)) q ∙ ap (λ (f : ℕ → Bool). keep f (put t p all_of)) (fun_ext s)

  kept_fits : length kept_of ≤ length ts
  kept_fits = omega (arith, length_keep_le (leb since) all_of, length_samples_of n ts fs, row.fits)

  -- k is the place of `since`, and the first k samples are dropped
  module _ (k : ℕ) (q : k ≡ below since (take n ts)) (r : ℕ) (us : List ℕ) (gs : List Float) (left : outcome (answer r) us gs ≡ holding (length ts) (drop k all_of)) where
    w : outcome (answer r) us gs ≡ holding (length ts) kept_of
    w = left ∙ ap (holding (length ts)) (dropped_before n ts fs row since k q)

    count_is : r ≡ length kept_of
    count_is = let e : answer r ≡ answer (length kept_of) = ap (λ (o : RowOutcome). o.count) w in cc

    us_are : us ≡ instant_words (length ts) kept_of
    us_are = ap (λ (o : RowOutcome). o.instants) w

    gs_are : gs ≡ pose_words (length ts) kept_of
    gs_are = ap (λ (o : RowOutcome). o.poses) w

    us_long : length us ≡ length ts
    us_long = ap length us_are ∙ length_instant_words (length ts) kept_of kept_fits

    back : samples_of r us gs ≡ kept_of
    back = (λ i. samples_of (count_is i) (us_are i) (gs_are i)) ∙ read_back (length ts) kept_of

    -- the sample is too old itself
    left_out : t < since → outcome (answer r) us gs ≡ insert_row age t p n ts fs
    unfolding insert_row
    left_out h =
        w
        ∙ sym (ap (unless_full ts fs) (insert_is ∙ keep_put_dropped (leb since) t p all_of (lt-leb since t h)) ∙ roomy ts fs kept_of kept_fits)

    -- a full row has dropped nothing
    all_kept : (m : Samples) → length m ≤ suc (length kept_of) → length ts < length m → kept_of ≡ all_of
    all_kept m h over = keep_whole (leb since) all_of (omega (arith, length_samples_of n ts fs, row.fits))

    same_room : (m : Samples) → length m ≤ suc (length kept_of) → unless_full us gs m ≡ unless_full ts fs m
    same_room m h =
        both (ltb (length ts) (length m))
        (λ e.
        let whole = all_kept m h (ltb-true (length ts) (length m) e) in
        let a : us ≡ ts = us_are ∙ ap (instant_words (length ts)) whole ∙ sym (ts_are n ts fs row) in
        let b : gs ≡ fs = gs_are ∙ ap (pose_words (length ts)) whole ∙ sym (fs_are n ts fs row fit) in
        λ i. unless_full (a i) (b i) m)
        (λ e.
        let room : length m ≤ length ts = ltb-false (length ts) (length m) e in
        roomy us gs m (omega (arith, us_long)) ∙ ap (λ (capacity : ℕ). holding capacity m) us_long ∙ sym (roomy ts fs m room))

    put_into : insert None t p (samples_of r us gs) ≡ put t p kept_of
    put_into = ap (insert None t p) back ∙ insert_none t p kept_of

    -- it is put in beside what is left
    put_beside : since ≤ t → insert_row None t p r us gs ≡ insert_row age t p n ts fs
    unfolding insert_row
    put_beside h =
        ap (unless_full us gs) put_into
        ∙ same_room (put t p kept_of) (length_put_le t p kept_of)
        ∙ sym (ap (unless_full ts fs) (insert_is ∙ keep_put (leb since) t p all_of (rising_held n ts fs (row_held n ts fs row)) (le-leb since t h)))

    all_left : (k : ℕ) (d : Carried) (vs : List ℕ) (hs : List Float) → outcome (refusal k d) vs hs ≡ insert_row None t p r us gs → r ≡ n
    unfolding insert_row
    all_left k d vs hs e =
        let m : Samples = put t p kept_of in
        let f : outcome (refusal k d) vs hs ≡ unless_full us gs m = e ∙ ap (unless_full us gs) put_into in
        both (ltb (length us) (length m))
        (λ o.
        let over = ltb-true (length us) (length m) o in
        count_is ∙ ap length (all_kept m (length_put_le t p kept_of) (omega (arith, us_long))) ∙ length_samples_of n ts fs)
        (λ o. absurd (refusal_answer (ap (λ (x : RowOutcome). x.count) (f ∙ roomy us gs m (ltb-false (length us) (length m) o)))))

    pub expired : Expired age t p n ts fs since r us gs
    expired = record { too_old = left_out; held_too = put_beside; whole = all_left }
