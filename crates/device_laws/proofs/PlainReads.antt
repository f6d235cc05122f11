-- What a matched reader of an unsecured read group holds, of a publisher whose other groups have rings that are known by those of a configuration.
use Rattle.std.proofs.Common.{◌≡◌, sym, ap, ◌∙◌, subst, ℕ, List, Option, Some}
use Rattle.std.proofs.lemmas.Option.{slice_get-get_or}
use Rattle.dataset_meta.specs.DataValues.{DataValue}
use Rattle.dataset_reader.specs.Kept.{Kept}
use Rattle.dataset_reader.specs.Reader.{kept_by}
use Rattle.dataset_reader.specs.declared.reader.Reader.{Reader}
use Rattle.group_keys.specs.declared.key_set.KeySet.{KeySet}
use Rattle.ps_config.specs.declared.parts.Config.{Config}
use Rattle.ps_config.specs.declared.parts.ReadGroupPart.{ReadGroupPart}
use Rattle.reader_group.specs.Members.{MemberValue, seat_at}
use Rattle.reader_group.specs.Plain.{Setting, member_at, plain}
use Rattle.reader_group.specs.Settings.{setting_by, setup_by}
use Rattle.writer_group.specs.Parts.{group_at, no_group}
use Rattle.group_laws.specs.Matching.{IsMatchedTo}
use Rattle.session_laws.specs.Pasts.{CameAsMade, IsMade}
use Rattle.session_laws.specs.Plays.{IsPlay, Play, its_member, its_meta}
use Rattle.device.specs.Readings.{IsReaderAt}
use Rattle.device_laws.specs.Devices.{HasSentFew, HoldsNamed, IsCounted, member_in}
use Rattle.device_laws.specs.Publishing.{HasOffered, PublisherLife, config_in}
use Rattle.device_laws.specs.Pulled.{config_with}
use Rattle.device_laws.specs.Subscribing.{Reading, SubscriberLife, events_in, setting_in, subscriber_in}
use Rattle.device_laws.specs.Turning.{past_in}
use Rattle.device_laws.proofs.Alike.{alike-came, alike-member, seated}
use Rattle.device_laws.proofs.WholeRows.{named-sent}
use Rattle.device_laws.proofs.Heard.{keeps-member, plain-reading}
use Rattle.device_laws.proofs.Offered.{offered-made}
use Rattle.device_laws.proofs.OtherRings.{rings-fixed, rings-sound, set-by}
use Rattle.device_laws.proofs.Pairs.{MetaLaw, PlayLaws, are-restarts, came-made, meta-law}
use Rattle.device_laws.proofs.PulledTurns.{pulled-past}
use Rattle.device_laws.specs.Plain.{IsPlainPair}

-- ---- the two

module _ (text other : List ℕ) (pl : PublisherLife) (sl : SubscriberLife) (readers : ReadGroupPart) (r i g w : ℕ) (sets : ℕ → List KeySet) (is : IsPlainPair text other pl sl readers r i g w sets) where
  abbrev own : Config
  own = config_in pl

  abbrev ringed : Config
  ringed = config_with own sets

  made-now : (datagram : List ℕ) → HasOffered pl.steps datagram → IsMade ringed (past_in pl) datagram
  made-now datagram has =
      let made = offered-made text pl.first is.publisher.opened pl.steps is.publisher.steps_are datagram has in
      record { group = made.group; part = made.part; there = made.there; made = made.made }

  abbrev p : Play
  p = record { config = ringed; index = g; group = group_at own g; writer = w; readers = readers; reader = i; pasts = past_in pl; events = events_in sl r }

  -- the setting of the configuration with the other rings
  its-setting : setting_by ringed readers ≡ setting_by own readers
  its-setting =
      ap (λ (o : Option ℕ). set-by own sets readers (setup_by ringed readers o)) is.unkeyed ∙ sym (ap (λ (o : Option ℕ). set-by own sets readers (setup_by own readers o)) is.unkeyed)

  came : CameAsMade (setting_by own readers) ringed (past_in pl) (events_in sl r)
  came =
      alike-came i (setting_in sl r) (setting_by own readers) is.alike ringed (past_in pl) (events_in sl r)
      (came-made other sl.first r is.subscriber.opened is.read_there (HasOffered pl.steps) ringed (past_in pl) made-now sl.steps is.subscriber.steps_are is.keys is.took)

  matched1 : IsMatchedTo ringed readers i (group_at own g) w
  matched1 =
      let m = is.matched.groups in
      record {
        groups = record { publisher = m.publisher; group_id = m.group_id; version = m.version; class_id = m.class_id; layout = m.layout; security = m.security; keygroup = m.keygroup };
        within = is.matched.within;
        reads = is.matched.reads;
      }

  is-play : (most : ℕ) → HasSentFew most pl g w → IsPlay most p
  is-play most few = record {
    sound = rings-sound own sets is.publisher.opened.is.good.sound is.make;
    fixed = rings-fixed own sets is.publisher.opened.is.good.fixed;
    there = slice_get-get_or own.group g no_group is.there;
    matched = matched1;
    pasts = λ index group at. pulled-past text pl.first sets is.make is.configured is.publisher.opened pl.steps is.publisher.steps_are is.rings index group at;
    came = subst (λ (s : Setting). CameAsMade s ringed (past_in pl) (events_in sl r)) (sym its-setting) came;
    restarts = are-restarts sl.first r sl.steps;
    few = few;
  }

  member-is : member_in sl r i ≡ its_member p
  member-is =
      ap (λ (x : Reading). member_at x.value.members i) (plain-reading sl.first r sl.steps is.keys)
      ∙ alike-member i (setting_in sl r) (setting_by own readers) is.alike (seated own readers i is.matched.within) (events_in sl r)
      ∙ ap (λ (s : Setting). member_at (plain s (events_in sl r)).members i) (sym its-setting)

  whole-held : PlayLaws → MetaLaw → (row : List DataValue) → IsCounted pl → HasSentFew 16385 pl g w → (member_in sl r i).kept.row ≡ Some row → HoldsNamed pl g w (member_in sl r i).kept.number row
  whole-held laws law row counted few e =
      let held : (its_member p).kept.row ≡ Some row = ap (λ (m : MemberValue). m.kept.row) (sym member-is) ∙ e in
      let h = laws.holds p row (is-play 16385 few) held in
      subst (λ (m : MemberValue). HoldsNamed pl g w m.kept.number row) (sym member-is)
      (named-sent text pl g w is.publisher counted is.there is.matched.reads.within (its_meta p) (meta-law law ringed readers i (group_at own g) w matched1) (its_member p).kept.number row h.place h.sent h.number_is h.logged.named)

  pub plain-holds : PlayLaws → MetaLaw → (reader : Reader) (row : List DataValue) → IsCounted pl → HasSentFew 16385 pl g w → IsReaderAt r i (subscriber_in sl) reader
      → (let kept = kept_by (seat_at (setting_in sl r).seats i).meta.fields reader in kept.row ≡ Some row → HoldsNamed pl g w kept.number row)
  plain-holds laws law reader row counted few has =
      let same = keeps-member other sl.first r i sl.steps is.subscriber.opened is.read_there is.subscriber.steps_are reader has in
      subst (λ (k : Kept). k.row ≡ Some row → HoldsNamed pl g w k.number row) (sym same) (whole-held laws law row counted few)
