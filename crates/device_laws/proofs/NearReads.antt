-- Two devices: where all places are near, a reader reads by *Records* and holds whole rows, however many turns the publisher had.
use Rattle.std.proofs.Common.{◌≡◌, refl, sym, subst, ℕ, List, Some}
use Rattle.std.proofs.lemmas.Option.{slice_get-get_or}
use Rattle.dataset_meta.specs.DataValues.{DataValue}
use Rattle.dataset_reader.specs.Kept.{Kept}
use Rattle.dataset_reader.specs.Reader.{kept_by}
use Rattle.dataset_reader.specs.declared.reader.Reader.{Reader}
use Rattle.ps_config.specs.declared.parts.Config.{Config}
use Rattle.ps_config.specs.declared.parts.GroupPart.{GroupPart}
use Rattle.ps_config.specs.declared.parts.ReadGroupPart.{ReadGroupPart}
use Rattle.reader_group.specs.Agreeing.{MemberIs}
use Rattle.reader_group.specs.Arrivals.{Mark, arrivals_in}
use Rattle.reader_group.specs.Members.{no_seat, seat_at}
use Rattle.reader_group.proofs.Answered.{StepKeeps}
use Rattle.writer_group.specs.Parts.{group_at, no_group}
use Rattle.writer_group.specs.Payloads.{meta_at}
use Rattle.writer_group.specs.Turns.{writer_past}
use Rattle.session_laws.specs.Below.{RingLaw, TurnLaws}
use Rattle.session_laws.specs.Pasts.{settings_at}
use Rattle.session_laws.specs.Plays.{Play, its_setting, its_way}
use Rattle.device.specs.Readings.{IsReaderAt}
use Rattle.device_laws.specs.Devices.{ArePaired, HoldsWhole, IsCounted, member_in, play_of}
use Rattle.device_laws.specs.Placed.{AreAllNear, ComesAnswered}
use Rattle.device_laws.specs.Publishing.{PublisherLife, config_in}
use Rattle.device_laws.specs.Subscribing.{SubscriberLife, events_in, setting_in, subscriber_in}
use Rattle.device_laws.specs.Turning.{past_in}
use Rattle.device_laws.proofs.Alike.{seated}
use Rattle.device_laws.proofs.AnyLength.{held-row}
use Rattle.device_laws.proofs.Heard.{keeps-member}
use Rattle.device_laws.proofs.Pairs.{are-restarts, came, member-is}
use Rattle.device_laws.proofs.PlacedItems.{placed-list}
use Rattle.device_laws.proofs.PlacedReads.{placed-read}
use Rattle.device_laws.proofs.Publishes.{is-past}
use Rattle.device_laws.proofs.Rows.{has-rows}
use Rattle.device_laws.proofs.WholeRows.{whole-sent}

module _ (ring : RingLaw) (laws : TurnLaws) (text other : List ℕ) (pl : PublisherLife) (sl : SubscriberLife) (readers : ReadGroupPart) (r i g w : ℕ) (are : ArePaired text other pl sl readers r i g w) where
  abbrev p : Play
  p = play_of pl sl readers r i g w

  abbrev config : Config
  config = config_in pl

  abbrev part : GroupPart
  part = group_at config g

  pub placed-there : (list : List Mark) × ComesAnswered p list
  placed-there =
      let h =
      placed-list laws config part readers i w are.matched g (past_in pl) are.publisher.opened.is.good.sound (slice_get-get_or config.group g no_group are.there)
      (λ index group at. is-past ring text pl index group are.publisher are.rings at) (its_way p) refl (events_in sl r) (came ring text other pl sl readers r i g w are) in
      (h.list, record { placed = h.placed; items = h.sent.items })

  pub near-keeps : StepKeeps → (list : List Mark) → ComesAnswered p list → AreAllNear p list → MemberIs (its_way p) list (member_in sl r i)
  near-keeps step list comes near =
      let seats = (its_setting p).seats in
      let seat = slice_get-get_or seats i no_seat (seated config readers i are.matched.within) in
      let at = placed-read step (its_setting p) (its_way p) seat (events_in sl r) list (are-restarts sl.first r sl.steps) comes.placed (record { items = near.items; chunks = near.chunks }) in
      subst (MemberIs (its_way p) list) (sym (member-is ring text other pl sl readers r i g w are))
      (record { keeps = at.keeps; joins = at.joins; seen = at.seen; late = at.late; ready = at.ready })

  pub near-holds : StepKeeps → IsCounted pl → (list : List Mark) → ComesAnswered p list → AreAllNear p list → (reader : Reader) (row : List DataValue) → IsReaderAt r i (subscriber_in sl) reader
      → (let kept = kept_by (seat_at (setting_in sl r).seats i).meta.fields reader in kept.row ≡ Some row → HoldsWhole pl g w kept.number row)
  near-holds step counted list comes near reader row has =
      let kept = (member_in sl r i).kept in
      let seat = (its_way p).seat in
      let same = keeps-member other sl.first r i sl.steps are.subscriber.opened are.read_there are.subscriber.steps_are reader has in
      let rows = has-rows text pl.first g w are.publisher.opened are.there are.matched.reads.within pl.steps are.publisher.steps_are in
      subst (λ (k : Kept). k.row ≡ Some row → HoldsWhole pl g w k.number row) (sym same)
      (λ e.
      let sent = held-row seat.meta (settings_at part w) (writer_past w (past_in pl g)) (meta_at part config.dataset w) rows (arrivals_in list) seat.part.numbering kept row comes.items (near-keeps step list comes near).keeps e in
      whole-sent text pl g w are.publisher counted are.there are.matched.reads.within seat.meta (laws.meta config readers i part w are.matched) kept.number row sent.place sent.sent sent.number_is)
