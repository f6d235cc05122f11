-- A closing frame whose datagrams came to a read group without security: it is the last key frame that came to a reader with no numbering.
use Rattle.std.proofs.Common.{◌≡◌, refl, sym, ap, ◌∙◌, subst, Bool, false, not, ℕ, ◌≤◌, arith, ◌⊎◌, inl, inr, List, [], ◌∷◌, ◌++◌, map, Some, true, All, Contains}
use Rattle.std.specs.Prelude.{◌||◌, ⊤}
use Rattle.std.proofs.lemmas.List.Elements.{All-contains}
use Rattle.dataset_meta.specs.DataValues.{DataValue}
use Rattle.dataset_meta.specs.Rows.{row_cut}
use Rattle.ua_base.specs.Journal.{Entry}
use Rattle.message_guard.specs.Acceptance.{Accepted, is_acceptable, raises}
use Rattle.message_guard.specs.Modes.{is_secured}
use Rattle.pubsub_model.specs.Cadence.{WriterDeed, WriterTurn}
use Rattle.group_laws.specs.TurnItems.{IsUncut}
use Rattle.group_laws.specs.TurnOpened.{is_accepted}
use Rattle.reader_group.specs.Arrivals.{accepted}
use Rattle.reader_group.specs.Opening.{Opened}
use Rattle.reader_group.specs.Payloads.{Piece, pieces}
use Rattle.reader_group.specs.Settings.{setting_of}
use Rattle.pubsub_states.specs.declared.component.Component.TheVariants.{Reader}
use Rattle.writer_group.specs.Parts.{group_at}
use Rattle.writer_group.specs.Turns.{GroupDeed, GroupTurn, HadGroupTurn, took_by, writer_past}
use Rattle.session_model.specs.Deeds.{deeds, group_past}
use Rattle.session_model.specs.Events.{receives}
use Rattle.session_model.specs.Steps.{Plan, Step, Pump, is_on}
use Rattle.session_laws.specs.Bare.{CameQuietly, ClosingCameLast, ClosingGotLast, ClosingGotSinceLast, IsBare}
use Rattle.session_laws.specs.Headline.{InSession, meta_of}
use Rattle.session_laws.specs.Newest.{CameIn, ClosesInTick, EachPart, HasPartFor, HoldsClosingRow, closing_deeds, ticked}
use Rattle.session_laws.specs.Plays.{its_way}
use Rattle.session_laws.specs.Sessions.{AreVersions, pasts_at}
use Rattle.session_laws.proofs.Closing.BareGot.{and-false}
use Rattle.session_laws.proofs.Closing.AllTaken.{QuietOnceTaken, TakesAll, chunks-last, part-last, quiet-all}
use Rattle.session_laws.proofs.Closing.BareTrace.{came-between, taken-any}
use Rattle.session_laws.proofs.Closing.ClosingGot.{InChunks, LastTurn, OnePart, last-turn, not-empty, one-part, part-case, same-turn}
use Rattle.session_laws.proofs.Closing.ClosingParts.{all, found-own, its_datagram, le, made-one, opens}
use Rattle.session_laws.proofs.Closing.ClosingTick.{its_last, new-first}
use Rattle.session_laws.proofs.Closing.InPumps.{so_far}
use Rattle.session_laws.proofs.HeldRows.Marks.{turns}
use Rattle.session_laws.proofs.HeldRows.Published.{Laws, is-play, play_of}

-- a reader with no numbering holds it then
abbrev pub LastHeldLaw : Type 0
LastHeldLaw =
    (p : Plan) (r i g w : ℕ) (steps : List Step) (rows : ℕ → ℕ → List DataValue) (before : List WriterDeed) (turn : WriterTurn) → InSession p r i g w steps → AreVersions p steps rows
    → ClosingCameLast p r i g w steps before turn → HoldsClosingRow p r i g w steps rows turn.version

-- ---- without security each datagram that came is taken

module _ (laws : Laws) (p : Plan) (r i g w : ℕ) (start : List Step) (pumps : List (List Entry)) (own : WriterTurn) (is : InSession p r i g w (map Pump pumps ++ start)) (closing : own.closing ≡ true)
    (last : LastTurn p.config (group_at p.config g) (pasts_at p (map Pump pumps ++ start) g)) (took : took_by w last.turn ≡ Some own) (bare : IsBare p r i) (unsecured : is_secured (setting_of p.config r).setup.mode ≡ false)
    (operational : receives p.config start r ≡ true) (enabled : is_on p.config start (Reader r i) ≡ true)
    (came : EachPart p r i last.turn.made (CameIn pumps)) where
  abbrev its_all : List Opened
  its_all = all laws p r i g w start pumps own is closing last took

  abbrev datagram_of : (one : Opened) → Contains its_all one → List ℕ
  datagram_of one has = its_datagram laws p r i g w start pumps own is closing last took one has

  made-of : (one : Opened) (has : Contains its_all one) → Contains last.turn.made (datagram_of one has)
  made-of one has = made-one laws p r i g w start pumps own is closing last took one has

  accepts : (pairs : Accepted) (one : Opened) → is_accepted (setting_of p.config r).setup pairs one.pass ≡ true
  accepts pairs one = ap (λ (b : Bool). not b || is_acceptable (setting_of p.config r).setup.keys pairs one.pass.token one.pass.number) unsecured

  takes-all : TakesAll laws p r i g w start pumps own is closing last took (λ befell. ⊤)
  takes-all = record {
    bare = bare;
    operational = operational;
    enabled = enabled;
    stays = record {
      keeps = λ now on other befell calm. tt;
      quiet = λ later older sooner behind other opened split calm e.
          let pairs = accepted (setting_of p.config r) (so_far p.config r start older sooner) in
          and-false (is_secured (setting_of p.config r).setup.mode) (raises pairs opened.pass.token) unsecured;
    };
    first_accepts = λ one has. accepts [] one;
    taken = λ one has part.
        taken-any p.config r start (datagram_of one has) one pumps (λ pairs. opens laws p r i g w start pumps own is closing last took one has pairs (accepts pairs one)) (came (datagram_of one has) (made-of one has) part);
    begins = λ one has now on befell e. tt;
  }

  abbrev parts_of : Opened → List Piece
  parts_of o = pieces (its_way (play_of p r i g w (map Pump pumps ++ start))).seat.part o.payload

  abbrev Uncut : Type 0
  Uncut = (datagram : List ℕ) → Contains last.turn.made datagram → (part : HasPartFor (setting_of p.config r) i datagram) → All IsUncut (parts_of part.opened)

  -- with no chunk for the reader
  pub whole-last : Uncut → EachPart p r i last.turn.made (CameQuietly p r i g w pumps start (row_cut (meta_of p r i) own.row)) → ClosingCameLast p r i g w (map Pump pumps ++ start) (writer_past w last.before) own
  whole-last whole quietly =
      part-last laws p r i g w start pumps own is closing last took (λ befell. ⊤) takes-all
      (one-part laws.turns (play_of p r i g w (map Pump pumps ++ start)) (is-play laws p r i g w (map Pump pumps ++ start) is) own closing (le laws p r i g w start pumps own is closing last took) last took
      (λ one piece has there.
      let some = not-empty (parts_of one) piece there in
      All-contains IsUncut (parts_of one) piece (whole (datagram_of one has) (made-of one has) (record { opened = one; opens = opens laws p r i g w start pumps own is closing last took one has [] (accepts [] one); part = some })) there) (group_at p.config g).layout refl)
      (λ one has some part.
      let c = quietly (datagram_of one has) (made-of one has) part in
      let pairs = accepted (setting_of p.config r) (so_far p.config r start c.before c.first) in
      record {
        at = record { later = c.later; before = c.before; earlier = c.first; behind = c.behind; is = c.is; opens = opens laws p r i g w start pumps own is closing last took one has pairs (accepts pairs one) };
        quiet = c.quiet;
      })

-- a datagram that came so came
quietly-came : (p : Plan) (r i g w : ℕ) (pumps : List (List Entry)) (start : List Step) (row : List DataValue) (datagram : List ℕ) → CameQuietly p r i g w pumps start row datagram → CameIn pumps datagram
quietly-came p r i g w pumps start row datagram c = subst (λ (l : List (List Entry)). CameIn l datagram) (sym c.is) (came-between c.later c.before c.first c.behind datagram)

-- ---- so it is held

pub got-last-held : Laws → LastHeldLaw → (p : Plan) (r i g w : ℕ) (steps : List Step) (rows : ℕ → ℕ → List DataValue) (before : List GroupDeed) (turn : GroupTurn) (own : WriterTurn) → InSession p r i g w steps → AreVersions p steps rows
    → ClosingGotLast p r i g w steps before turn own → HoldsClosingRow p r i g w steps rows own.version
got-last-held laws held p r i g w steps rows before turn own is versions c =
    let ended = map Pump c.ends.pumps ++ c.start in
    let here : InSession p r i g w ended = subst (InSession p r i g w) c.ends.split is in
    let past_is : group_past p.config g (deeds p ended) ≡ HadGroupTurn turn ∷ before = subst (λ (l : List Step). group_past p.config g (deeds p l) ≡ HadGroupTurn turn ∷ before) c.ends.split c.last in
    let is_play = is-play laws p r i g w ended here in
    let last = (last-turn p.config (group_at p.config g) w (pasts_at p ended g) (turns laws.turns 16385 (play_of p r i g w ended) (omega arith) is_play) turn before past_is).0 in
    let same : last.turn ≡ turn = (same-turn last.turn turn last.before before (sym last.past_is ∙ past_is)).0 in
    let own_made : (datagram : List ℕ) → Contains last.turn.made datagram → Contains turn.made datagram = λ datagram made. subst (λ (t : GroupTurn). Contains t.made datagram) same made in
    let past = writer_past w last.before in
    held p r i g w steps rows past own is versions
    (subst (λ (l : List Step). ClosingCameLast p r i g w l past own) (sym c.ends.split)
    (whole-last laws p r i g w c.start c.ends.pumps own here c.ends.closing last (ap (took_by w) same ∙ c.ends.took) c.bare c.unsecured c.ends.operational c.ends.enabled
    (λ datagram made part. quietly-came p r i g w c.ends.pumps c.start (row_cut (meta_of p r i) own.row) datagram (c.came datagram (own_made datagram made) part))
    (λ datagram made part. c.whole datagram (own_made datagram made) part) (λ datagram made part. c.came datagram (own_made datagram made) part)))

-- ---- whole or in chunks, in all pumps behind the closing tick

module _ (laws : Laws) (p : Plan) (r i g w : ℕ) (steps : List Step) (own : WriterTurn) (is : InSession p r i g w steps) (c : ClosingGotSinceLast p r i g w steps own) (unsecured : is_secured (setting_of p.config r).setup.mode ≡ false) where
  abbrev t : ClosesInTick p r i g w steps own
  t = c.tick

  abbrev ended : List Step
  ended = map Pump t.ends.pumps ++ ticked t

  abbrev here : InSession p r i g w ended
  here = subst (InSession p r i g w) t.ends.split is

  abbrev last : LastTurn p.config (group_at p.config g) (pasts_at p ended g)
  last = its_last laws p r i g w t.ms t.samples t.done t.start t.ends.pumps own here t.had t.ends.took t.ends.closing

  abbrev its_le : 16385 ≤ 65536
  its_le = le laws p r i g w (ticked t) t.ends.pumps own here t.ends.closing last t.ends.took

  abbrev takes : TakesAll laws p r i g w (ticked t) t.ends.pumps own here t.ends.closing last t.ends.took (λ befell. ⊤)
  takes = takes-all laws p r i g w (ticked t) t.ends.pumps own here t.ends.closing last t.ends.took c.bare unsecured t.ends.operational t.ends.enabled c.came

  once : QuietOnceTaken laws p r i g w (ticked t) t.ends.pumps own here t.ends.closing last t.ends.took
  once later before first behind split taken =
      c.quiet later before first behind split
      (λ datagram made part.
      let found = found-own laws p r i g w (ticked t) t.ends.pumps own here t.ends.closing last t.ends.took [] datagram part.opened made part.opens in
      let at = taken part.opened found.0 part.part in
      subst (λ (d : List ℕ). CameIn (first ∷ before) d) found.1
      (subst (λ (l : List (List Entry)). CameIn l (its_datagram laws p r i g w (ticked t) t.ends.pumps own here t.ends.closing last t.ends.took part.opened found.0)) (sym at.is)
      (came-between at.later at.before at.earlier at.behind (its_datagram laws p r i g w (ticked t) t.ends.pumps own here t.ends.closing last t.ends.took part.opened found.0))))

  abbrev its_past : List WriterDeed
  its_past = writer_past w (group_past p.config g (closing_deeds p t.start t.ms t.samples g))

  since-last : OnePart laws.turns (play_of p r i g w ended) (is-play laws p r i g w ended here) own t.ends.closing its_le last t.ends.took ⊎ InChunks laws.turns (play_of p r i g w ended) (is-play laws p r i g w ended here) own t.ends.closing its_le last t.ends.took
      → ClosingCameLast p r i g w ended its_past own
  since-last (inl part) =
      part-last laws p r i g w (ticked t) t.ends.pumps own here t.ends.closing last t.ends.took (λ befell. ⊤) takes part
      (λ one has some its. quiet-all laws p r i g w (ticked t) t.ends.pumps own here t.ends.closing last t.ends.took once part one has some (takes.taken one has its))
  since-last (inr chunks) =
      chunks-last laws p r i g w (ticked t) t.ends.pumps own here t.ends.closing last t.ends.took (λ befell. ⊤) takes chunks
      (new-first laws p r i g w t.ms t.samples t.done t.start t.ends.pumps own here t.had t.ends.took t.ends.closing takes.first_accepts chunks) once

  since-came : ClosingCameLast p r i g w ended its_past own
  since-came = since-last (part-case laws.turns (play_of p r i g w ended) (is-play laws p r i g w ended here) own t.ends.closing its_le last t.ends.took (group_at p.config g).layout refl)

pub unsecured-last-held : Laws → LastHeldLaw → (p : Plan) (r i g w : ℕ) (steps : List Step) (rows : ℕ → ℕ → List DataValue) (own : WriterTurn) → InSession p r i g w steps → AreVersions p steps rows
    → ClosingGotSinceLast p r i g w steps own → is_secured (setting_of p.config r).setup.mode ≡ false → HoldsClosingRow p r i g w steps rows own.version
unsecured-last-held laws held p r i g w steps rows own is versions c unsecured =
    let past = its_past laws p r i g w steps own is c unsecured in
    held p r i g w steps rows past own is versions (subst (λ (l : List Step). ClosingCameLast p r i g w l past own) (sym c.tick.ends.split) (since-came laws p r i g w steps own is c unsecured))
