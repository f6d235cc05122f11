-- A datagram that a publisher's turns made has nothing for a reader, unless the group of the reader's writer made it.
use Rattle.std.proofs.Common.{◌≡◌, ◌≢◌, refl, sym, ◌∙◌, subst, arith, ℕ, ◌<◌, ◌≤◌, Bool, true, false, List, [], ◌∷◌, length, Result, Ok, Err, inl, inr, All, Contains, eqb-true}
use Rattle.std.specs.Prelude.{◌⊎◌, ◌==◌, IsErr}
use Rattle.std.proofs.lemmas.Bool.Decides.{nat_tests}
use Rattle.std.proofs.lemmas.List.Elements.{All-weaker}
use Rattle.std.proofs.lemmas.Option.{get_or_from_slice_get}
use Rattle.dataset_meta.specs.Rows.{cons_if}
use Rattle.message_guard.specs.Acceptance.{Accepted}
use Rattle.message_guard.specs.Guards.{Setup}
use Rattle.config_tables.specs.declared.words.Layout.{Layout}
use Rattle.config_tables.specs.declared.words.Layout.TheVariants as layouts
use Rattle.ps_config.specs.declared.parts.Config.{Config}
use Rattle.ps_config.specs.declared.parts.GroupPart.{GroupPart}
use Rattle.ps_config.specs.declared.parts.ReadGroupPart.{ReadGroupPart}
use Rattle.ps_config.specs.declared.parts.WriterPart.{WriterPart}
use Rattle.ps_config.specs.Sound.{IsGroup, IsSound}
use Rattle.reader_group.specs.declared.refusal.Refusal.{Refusal}
use Rattle.reader_group.specs.declared.refusal.Refusal.TheVariants as refusals
use Rattle.reader_group.specs.Members.{Seat, seat_at}
use Rattle.reader_group.specs.Opening.{Opened, verdict}
use Rattle.reader_group.specs.Payloads.{pieces}
use Rattle.reader_group.specs.Settings.{setting_by}
use Rattle.writer_group.specs.Parts.{group_at, no_group}
use Rattle.writer_group.specs.Payloads.{Spelled, payloads_of, writer_at}
use Rattle.writer_group.specs.Turns.{GroupDeed, GroupTurn, HadGroupTurn, RefreshedWriter, TurnInput, frames_in}
use Rattle.group_laws.specs.Matching.{IsMatchedTo, ReadsWriter}
use Rattle.group_laws.proofs.OtherGroups.{IsOfTurn, fixed-refused, not-named, others-pieces, turn-of}
use Rattle.session_model.specs.Deeds.{Deed, RefreshedBelow, RefreshedSet, CameTo, TookTurn, RenewedKeys, group_past, is_writer_below, is_writer_of, writer_indexes}
use Rattle.session_model.proofs.Deeds.{refreshed-keeps}
use Rattle.session_laws.specs.Below.{TurnLaws}
use Rattle.session_laws.specs.Pasts.{IsMade, WasMade}
use Rattle.session_laws.proofs.Versions.Distinct.{IsAt, at-sound, ids-differ, writer-id, writers-differ}
use Rattle.turn_laws.proofs.Rings.{AreRingTurns, AreWrittenPast, IsWrittenTurn}

-- ---- the turns of each group

turns-if : (config : Config) (other h : ℕ) (turn : GroupTurn) (before : List Deed) (b : Bool) → (other == h) ≡ b → IsWrittenTurn config (group_at config other) (group_past config other before) turn
    → AreWrittenPast config (group_at config h) (group_past config h before) → AreWrittenPast config (group_at config h) (cons_if b (HadGroupTurn turn) (group_past config h before))
turns-if config other h turn before true e own are = (subst (λ (n : ℕ). IsWrittenTurn config (group_at config n) (group_past config n before) turn) (eqb-true other h e) own, are)
turns-if config other h turn before false e own are = are

group-turns : (config : Config) (k h : ℕ) (list : List Deed) → AreRingTurns config k list → AreWrittenPast config (group_at config h) (group_past config h list)
group-turns config k h [] are = tt
group-turns config k h (RefreshedBelow component ∷ before) are =
    refreshed-keeps (AreWrittenPast config (group_at config h)) (λ writer past turns. turns) (is_writer_below component h) (group_past config h before) (writer_indexes (group_at config h)) (group-turns config k h before are)
group-turns config k h (RefreshedSet set ∷ before) are =
    refreshed-keeps (AreWrittenPast config (group_at config h)) (λ writer past turns. turns) (is_writer_of (group_at config h) set) (group_past config h before) (writer_indexes (group_at config h)) (group-turns config k h before are)
group-turns config k h (CameTo moment ∷ before) are = group-turns config k h before are
group-turns config k h (RenewedKeys keygroup sets ∷ before) are = group-turns config k h before are
group-turns config k h (TookTurn other turn ∷ before) are = turns-if config other h turn before (other == h) refl are.0 (group-turns config k h before are.2)

part-turns : (config : Config) (k : ℕ) (list : List Deed) → AreRingTurns config k list → (h : ℕ) (part : GroupPart) → IsAt config h part → AreWrittenPast config part (group_past config h list)
part-turns config k list are h part at =
    subst (λ (x : GroupPart). AreWrittenPast config x (group_past config h list)) (get_or_from_slice_get config.group h part no_group at) (group-turns config k h list are)

-- ---- a writer of a group, and a reader that is matched to it

module _ (laws : TurnLaws) (config : Config) (k : ℕ) (group : GroupPart) (readers : ReadGroupPart) (reader writer : ℕ) (setup : Setup) (matched : IsMatchedTo config readers reader group writer) where
  abbrev seat : Seat
  seat = seat_at (setting_by config readers).seats reader

  abbrev its_verdict : Accepted → List ℕ → Result Opened Refusal
  its_verdict accepted datagram = verdict readers setup accepted datagram

  -- ---- another group

  module _ (part : GroupPart) (sound : IsGroup config part) (some_id : 1 ≤ group.id) (ids : group.id ≢ part.id) (some : 1 ≤ seat.part.writer) (apart : All (λ other. other.id ≢ seat.part.writer) part.writer) where
    -- a datagram of it
    module _ (past : List GroupDeed) (input : TurnInput) (datagram : List ℕ) (is : IsOfTurn part (payloads_of config part (frames_in part past input)) datagram) (accepted : Accepted) (opened : Opened) (taken : its_verdict accepted datagram ≡ Ok opened) where
      abbrev frames : List Spelled
      frames = frames_in part past input

      other-layout : (layout : Layout) → part.layout ≡ layout → readers.layout ≡ layouts.Dynamic → pieces seat.part opened.payload ≡ []
      other-layout layouts.Fixed layout dynamic = absurd (err-of (its_verdict accepted datagram) (fixed-refused config part frames readers setup accepted datagram is layout dynamic) taken)
        where
          err-of : (answer : Result Opened Refusal) → IsErr answer → answer ≡ Ok opened → ⊥
          err-of (Ok x) err e = let wrong : false ≡ true = err in cc
          err-of (Err fault) err e = cc
      other-layout layouts.Dynamic layout dynamic = others-pieces config part past input sound readers setup accepted datagram opened seat.part is layout dynamic some apart taken

      other-turn : pieces seat.part opened.payload ≡ []
      other-turn = on matched.groups.group_id
        where
          refused : verdict readers setup accepted datagram ≡ Err refusals.NotOurs → ⊥
          refused not_ours = let wrong : Path (Result Opened Refusal) (Err refusals.NotOurs) (Ok opened) = sym not_ours ∙ taken in cc

          on : (readers.group ≡ group.id) ⊎ ((readers.group ≡ 0) × (readers.layout ≡ layouts.Dynamic)) → pieces seat.part opened.payload ≡ []
          on (inl same) = absurd (refused (not-named readers setup accepted part (payloads_of config part frames) datagram is (λ zero_is. omega (arith, some_id, same, zero_is)) (λ own. ids (sym same ∙ own))))
          on (inr any) = other-layout part.layout refl any.1

    other-made : (past : List GroupDeed) (accepted : Accepted) (datagram : List ℕ) (opened : Opened) → AreWrittenPast config part past → WasMade past datagram → its_verdict accepted datagram ≡ Ok opened → pieces seat.part opened.payload ≡ []
    other-made [] accepted datagram opened are made e = absurd made
    other-made (RefreshedWriter other ∷ before) accepted datagram opened are made e = other-made before accepted datagram opened are made e
    other-made (HadGroupTurn turn ∷ before) accepted datagram opened are (inl made) e =
        let input = are.0.input in
        let has = subst (λ (t : GroupTurn). Contains t.made datagram) are.0.is made in
        other-turn before input datagram (turn-of config part before input sound datagram are.0.written has) accepted opened e
    other-made (HadGroupTurn turn ∷ before) accepted datagram opened are (inr made) e = other-made before accepted datagram opened are.1 made e

  -- the group did, or there is nothing for the reader
  pub own-or-nothing : (index : ℕ) (list : List Deed) → IsSound config → IsAt config index group → AreRingTurns config k list → (accepted : Accepted) (datagram : List ℕ) (opened : Opened) → IsMade config (λ h. group_past config h list) datagram
      → its_verdict accepted datagram ≡ Ok opened → WasMade (group_past config index list) datagram ⊎ (pieces seat.part opened.payload ≡ [])
  own-or-nothing index list sound at are accepted datagram opened is e = on (is.group == index) refl
    where
      within : writer < length group.writer
      within = matched.reads.within

      reads : ReadsWriter group writer seat.part
      reads = laws.reads config readers reader group writer matched

      some : 1 ≤ seat.part.writer
      some = let id = reads.id in let least = writer-id config index writer group sound at within in omega (arith, id, least)

      on : (b : Bool) → (is.group == index) ≡ b → WasMade (group_past config index list) datagram ⊎ (pieces seat.part opened.payload ≡ [])
      on true own = inl (subst (λ (n : ℕ). WasMade (group_past config n list) datagram) (eqb-true is.group index own) is.made)
      on false other =
          let differ : is.group ≢ index = grind (arith, nat_tests, other) in
          let apart = writers-differ config index is.group writer group is.part sound at is.there differ within in
          let not_own = All-weaker (λ (w : WriterPart). w.id ≢ (writer_at group writer).id) (λ (w : WriterPart). w.id ≢ seat.part.writer) (λ w ids same. ids (same ∙ reads.id)) is.part.writer apart in
          inr (other-made is.part (at-sound config is.group is.part sound is.there) (at-sound config index group sound at).id.0 (ids-differ config index is.group group is.part sound at is.there differ) some not_own
          (group_past config is.group list) accepted datagram opened (part-turns config k list are is.group is.part is.there) is.made e)
