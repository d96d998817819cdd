-- The laws of specs/Laws.antt, each by the law of maps, samples or queries that says it.
use mathlib.Core.Path.{◌≡◌, refl, ap, ◌∙◌}
use mathlib.Core.Logic.{◌⊎◌, inl, inr}
use Rattle.time.specs.Reply.{nothing, hop, Reply, answer, refusal, ◌then◌}
use Rattle.time.proofs.Replies.{then_answered}
use Rattle.geometry.specs.declared.isometry.Isometry.{Isometry}
use Rattle.geometry.specs.Isometry.{finite}
use Rattle.geometry.proofs.Finites.{finite_answer, finite_refusal}
use Rattle.buffer.specs.Samples.{range, served, query}
use Rattle.buffer.specs.Laws.{GetInsert, GetRemoveBefore, NewestInsert, ExpiryMonotone, OrderFree, ExactSample, OnlyNotServed, QueryFinite, QueryRefusals}
use Rattle.buffer.proofs.Maps.{rising_is}
use Rattle.buffer.proofs.SampleLaws.{get_insert_lem, get_remove_before_lem, newest_insert_lem, dropped_up, insert_other}
use Rattle.buffer.proofs.ServedLaws.{served_held, served_refusal}

pub get_insert : GetInsert
get_insert = get_insert_lem

pub get_remove_before : GetRemoveBefore
get_remove_before = get_remove_before_lem

pub newest_insert : NewestInsert
newest_insert = newest_insert_lem

pub expiry_monotone : ExpiryMonotone
expiry_monotone = dropped_up

pub order_free : OrderFree
order_free age i j p q m r n = insert_other age i j p q m ((rising_is m).0 r) n

pub exact_sample : ExactSample
exact_sample = served_held

pub only_not_served : OnlyNotServed
only_not_served child kind m t n c r e =
    let w = served_refusal child kind m t n c ((rising_is m).0 r) e in
    (w.0, w.1)

pub query_finite : QueryFinite
unfolding query
query_finite child kind m t p h =
    let (q, e, f) = then_answered (served child kind m t) finite p h in
    let (same, tested) = finite_answer q p f in
    (e ∙ ap answer same, tested)

pub query_refusals : QueryRefusals
unfolding query
query_refusals child kind m t n c r h = go (served child kind m t) refl h
  where
    go : (o : Reply Isometry) → served child kind m t ≡ o → (o then finite) ≡ refusal n c → ((n ≡ 11) × (c ≡ hop child (range m))) ⊎ ((n ≡ 3) × (c ≡ nothing))
    go (answer x) e f = inr (finite_refusal x n c f)
    go (refusal k d) e f = inl (only_not_served child kind m t n c r (e ∙ f))
