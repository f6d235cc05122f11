use Rattle.std.proofs.Common.{◌≡◌, ◌<◌, length, refl, sym, ap, ◌∙◌, subst, arith, Bool}
use Rattle.std.specs.List.{HoldsAt}
use Rattle.std.proofs.lemmas.List.{length-set}
use Rattle.reader_group.specs.MemberWords.{Accounts, HoldsRowsOf, IsMemberOf}
use Rattle.reader_group.specs.Members.{Seat, seat_at, seat_of}
use Rattle.reader_group.specs.Held.{payload_in}
use Rattle.reader_group.specs.Notices.{account_by}
use Rattle.reader_group.specs.Plain.{fed_by, member_at}
use Rattle.reader_group.specs.Settings.{setting_by}
use Rattle.reader_group.proofs.Each.{partly-fed}
use Rattle.reader_group.proofs.Brought.{feeding, FeedsOne, fed-none, fed-more, tallies-all}
use Rattle.reader_group.proofs.Noticing.{accounting, noted-none, noted-more}
use Rattle.reader_group.proofs.Seats.{few_readers, reader-sound, seat-is, seats-length}
use Rattle.reader_group.proofs.feeding.feed_all.Goals as goal

pub loop-index-init : goal.loop-index-init
loop-index-init c =
    let seats = (setting_by c.args.config.now c.args.group.now).seats in
    let payload = payload_in c.args.payload.now in
    record {
      fed = fed-none seats (feeding c.args.receipt.now c.args.raised c.args.on.now payload) c.args.members.now _ c.requires.readers refl refl;
      noted = λ values are. noted-none seats values (accounting c.args.receipt.now c.args.raised c.args.on.now payload) c.args.receipt.now.moment c.args.notices.now;
      notices = refl;
    }

pub reader_at-reader-requires : goal.reader_at-reader-requires
reader_at-reader-requires c = omega (arith, seats-length c.args.config.now c.args.group.now)

pub meta_at-meta-requires : goal.meta_at-meta-requires
meta_at-meta-requires c =
    let within : c.loop-index.index < length c.args.group.now.reader = omega (arith, seats-length c.args.config.now c.args.group.now) in
    (reader-sound c.args.config.now c.args.group.now c.loop-index.index c.reader_at-reader.result.now c.requires.sound c.requires.group within c.reader_at-reader.ensures).dataset

pub feed_at-account-requires-clause-reader : goal.feed_at-account-requires-clause-reader
feed_at-account-requires-clause-reader c =
    let config = c.args.config.now in
    let group = c.args.group.now in
    let i = c.loop-index.index in
    let seats = (setting_by config group).seats in
    let within : i < length group.reader = omega (arith, seats-length config group) in
    let inside : i < length seats = omega (arith, seats-length config group) in
    let part = c.reader_at-reader.result.now in
    let meta = c.meta_at-meta.result.now in
    let sound = reader-sound config group i part c.requires.sound c.requires.group within c.reader_at-reader.ensures in
    let is : seat_at seats i ≡ seat_of part meta = seat-is config group i part meta within c.reader_at-reader.ensures sound.dataset c.meta_at-meta.ensures in
    subst (λ (seat : Seat). HoldsAt (HoldsRowsOf seat.meta) c.loop-index.members i) is (c.loop-index.invariant.fed.readers.each i inside)

pub add-requires-clause-matched : goal.add-requires-clause-matched
add-requires-clause-matched c = omega (arith, seats-length c.args.config.now c.args.group.now, few_readers c.args.config.now c.args.group.now c.requires.sound c.requires.group)

pub add-requires-clause-bad : goal.add-requires-clause-bad
add-requires-clause-bad c = omega (arith, seats-length c.args.config.now c.args.group.now, few_readers c.args.config.now c.args.group.now c.requires.sound c.requires.group)

pub loop-index-preserved : goal.loop-index-preserved
loop-index-preserved c =
    let config = c.args.config.now in
    let group = c.args.group.now in
    let receipt = c.args.receipt.now in
    let payload = payload_in c.args.payload.now in
    let i = c.loop-index.index in
    let seats = (setting_by config group).seats in
    let f = feeding receipt c.args.raised c.args.on.now payload in
    let within : i < length group.reader = omega (arith, seats-length config group) in
    let inside : i < length seats = omega (arith, seats-length config group) in
    let part = c.reader_at-reader.result.now in
    let meta = c.meta_at-meta.result.now in
    let sound = reader-sound config group i part c.requires.sound c.requires.group within c.reader_at-reader.ensures in
    let is : seat_at seats i ≡ seat_of part meta = seat-is config group i part meta within c.reader_at-reader.ensures sound.dataset c.meta_at-meta.ensures in
    let feeds : FeedsOne (λ seat value. fed_by seat receipt c.args.raised c.is_on-enabled.result payload value) i (seat_of part meta) c.loop-index.members c.feed_at-account.new.members c.feed_at-account.result.tally = record {
      member = c.feed_at-account.ensures.member;
      tally = c.feed_at-account.ensures.tally;
      reader = c.feed_at-account.ensures.reader;
      others = c.feed_at-account.ensures.others;
      count = c.feed_at-account.ensures.count;
      matched = c.feed_at-account.ensures.matched;
      bad = c.feed_at-account.ensures.bad;
    } in
    record {
      fed =
          fed-more seats f c.args.members.now i (seat_of part meta) c.loop-index.members c.feed_at-account.new.members c.loop-index.tally c.add.new.self c.feed_at-account.result.tally inside is
          (subst (λ (on : Bool). FeedsOne (λ seat value. fed_by seat receipt c.args.raised on payload value) i (seat_of part meta) c.loop-index.members c.feed_at-account.new.members c.feed_at-account.result.tally) c.is_on-enabled.ensures feeds) c.add.ensures.matched c.add.ensures.bad c.loop-index.invariant.fed;
      noted = λ values are.
          let noted = c.loop-index.invariant.noted values are in
          let was = (c.loop-index.invariant.fed.partly values are).above i (omega arith) inside in
          let here : HoldsAt (IsMemberOf (seat_of part meta) (member_at values i)) c.loop-index.members i = subst (λ (seat : Seat). HoldsAt (IsMemberOf seat (member_at values i)) c.loop-index.members i) is was in
          let g = accounting receipt c.args.raised c.args.on.now payload in
          let account : Accounts (account_by (seat_of part meta) receipt c.args.raised c.is_on-enabled.result payload (member_at values i)) c.feed_at-account.result = c.feed_at-account.ensures.account (member_at values i) here in
          let enabled : Accounts (g i (seat_of part meta) (member_at values i)) c.feed_at-account.result =
          subst (λ (on : Bool). Accounts (account_by (seat_of part meta) receipt c.args.raised on payload (member_at values i)) c.feed_at-account.result) c.is_on-enabled.ensures account in
          let own : Accounts (g i (seat_at seats i) (member_at values i)) c.feed_at-account.result =
          subst (λ (seat : Seat). Accounts (g i seat (member_at values i)) c.feed_at-account.result) (sym is) enabled in
          noted-more seats values g receipt.moment c.args.notices.now i c.loop-index.notices c.note_at.new.notices c.feed_at-account.result (omega arith) c.note_at.ensures own noted;
      notices = ap length c.note_at.ensures ∙ length-set c.loop-index.notices i _ ∙ c.loop-index.invariant.notices;
    }

pub returns-clause-members : goal.returns-clause-members
returns-clause-members c = λ values are.
    partly-fed (setting_by c.args.config.now c.args.group.now).seats values (feeding c.args.receipt.now c.args.raised c.args.on.now (payload_in c.args.payload.now)) c.loop-index.index c.loop-index.members
    (c.loop-index.invariant.fed.count ∙ are.count) (omega (arith, are.count)) (c.loop-index.invariant.fed.partly values are)

pub returns-clause-tally : goal.returns-clause-tally
returns-clause-tally c = λ values are.
    tallies-all (setting_by c.args.config.now c.args.group.now).seats values (feeding c.args.receipt.now c.args.raised c.args.on.now (payload_in c.args.payload.now)) c.loop-index.index c.loop-index.tally
    (omega (arith, are.count)) (c.loop-index.invariant.fed.tallies values are)

pub returns-clause-readers : goal.returns-clause-readers
returns-clause-readers c = c.loop-index.invariant.fed.readers

pub returns-clause-notices : goal.returns-clause-notices
returns-clause-notices c = λ values are k within.
    let noted = c.loop-index.invariant.noted values are in
    noted.below k (omega (arith, c.loop-index.invariant.fed.count, are.count, within))
