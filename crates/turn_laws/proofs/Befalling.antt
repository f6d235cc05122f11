-- What a datagram that comes, and a cut by hand, keeps of what befell a read group, the receives of a pump and a switch keep.
use Rattle.std.proofs.Common.{refl, arith, ℕ, suc, Bool, true, false, List, [], ◌∷◌, Contains}
use Rattle.std.specs.Prelude.{◌≡◌, fold, if◌then◌else◌}
use Rattle.dataset_meta.specs.Rows.{cons_if}
use Rattle.pubsub_model.specs.declared.reading.Why.TheVariants.{Restarted}
use Rattle.ua_base.specs.Journal.{Entry, Sent, SendFailed, Got, Empty, Long, ReceiveFailed}
use Rattle.pubsub_states.specs.declared.component.Component.{Component}
use Rattle.pubsub_states.specs.declared.component.Component.TheVariants.{Reader}
use Rattle.pubsub_states.specs.Components.{is_at_or_above}
use Rattle.reader_group.specs.Plain as befalls
use Rattle.reader_group.specs.Plain.{Event}
use Rattle.session_model.specs.Events.{got_on}

module _ (P : List Event → Type 0) where
  pub got-keeps : (moment : ℕ) (on : List Bool) (entries : List Entry) (earlier : List Event) → ((datagram : List ℕ) → Contains entries (Got datagram) → (before : List Event) → P before → P (befalls.Got moment on datagram ∷ before)) → P earlier
      → P (fold (got_on moment on) earlier entries)
  got-keeps moment on [] earlier keeps h = h
  got-keeps moment on (entry ∷ entries) earlier keeps h =
      got-keeps moment on entries (got_on moment on earlier entry) (λ datagram has. keeps datagram (suc has.0, let lt = has.1 in omega (arith, lt), has.2)) (one entry (λ datagram same. keeps datagram (0, omega arith, same)))
    where
      one : (entry : Entry) → ((datagram : List ℕ) → entry ≡ Got datagram → (before : List Event) → P before → P (befalls.Got moment on datagram ∷ before)) → P (got_on moment on earlier entry)
      one (Sent d) keeps = h
      one SendFailed keeps = h
      one (Got d) keeps = keeps d refl earlier h
      one Empty keeps = h
      one (Long len) keeps = h
      one ReceiveFailed keeps = h

  pub got-if : (b : Bool) (moment : ℕ) (on : List Bool) (entries : List Entry) (earlier : List Event) → ((datagram : List ℕ) → Contains entries (Got datagram) → (before : List Event) → P before → P (befalls.Got moment on datagram ∷ before)) → P earlier
      → P (if b then fold (got_on moment on) earlier entries else earlier)
  got-if true moment on entries earlier keeps h = got-keeps moment on entries earlier keeps h
  got-if false moment on entries earlier keeps h = h

  pub stopped-keeps : ((i : ℕ) (before : List Event) → P before → P (befalls.Stopped i Restarted ∷ before)) → (component : Component) (r : ℕ) (readers : List ℕ) (earlier : List Event) → P earlier
      → P (fold (λ so_far i. cons_if (is_at_or_above component (Reader r i)) (befalls.Stopped i Restarted) so_far) earlier readers)
  stopped-keeps keeps component r [] earlier h = h
  stopped-keeps keeps component r (i ∷ readers) earlier h = stopped-keeps keeps component r readers (cons_if (is_at_or_above component (Reader r i)) (befalls.Stopped i Restarted) earlier) (on (is_at_or_above component (Reader r i)))
    where
      on : (b : Bool) → P (cons_if b (befalls.Stopped i Restarted) earlier)
      on true = keeps i earlier h
      on false = h
