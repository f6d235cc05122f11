-- What the lines of a gateway tell.
use Rattle.std.proofs.Common.{◌≡◌, refl, sym, ap, ◌∙◌, subst, arith, ℕ, zero, suc, ◌<◌, ◌≤◌, true, List, [], ◌∷◌, ◌++◌, length, Option, None, Some, append_assoc, inl, inr}
use Rattle.std.specs.Prelude.{◌⊎◌, option_and_then, slice_get}
use Rattle.std.proofs.lemmas.Bool.{cases_lt}
use Rattle.std.proofs.lemmas.List.{get_or_past}
use Rattle.dataset_meta.specs.declared.field.Field.{Field}
use Rattle.dataset_meta.specs.DataValues.{DataValue}
use Rattle.dataset_reader.specs.Kept.{Kept}
use Rattle.pubsub_model.specs.Answers.{version_of}
use Rattle.pubsub_model.specs.Cadence.{HadTurn, WriterDeed, WriterTurn, is_data}
use Rattle.ps_config.specs.declared.parts.Config.{Config}
use Rattle.ps_config.specs.declared.parts.ReadGroupPart.{ReadGroupPart}
use Rattle.ps_report.specs.declared.closed.Closed.{Closed}
use Rattle.ps_report.specs.Lines.{fields_text, waits_text}
use Rattle.ps_report.specs.Reports.{end_line}
use Rattle.reader_group.specs.Settings.{group_at as read_group_at, no_group as no_read_group}
use Rattle.writer_group.specs.Parts.{group_at}
use Rattle.session_model.specs.Closing.{MemberPlace, reader_places, writer_places}
use Rattle.session_model.specs.Deeds.{log_at, writer_deeds}
use Rattle.session_model.specs.Events.{reader_at}
use Rattle.session_model.specs.Sends.{journal}
use Rattle.session_model.specs.Steps.{Plan, Step}
use Rattle.session_laws.specs.Headline.{PublishesVersion, answered_turn}
use Rattle.session_laws.specs.Pasts.{settings_at}
use Rattle.session_laws.specs.Reading.{IsMatchedIn}
use Rattle.session_laws.specs.Sessions.{AreVersions}
use Rattle.session_laws.proofs.Versions.Ends.{reader-place, writer-place}
use Rattle.session_laws.proofs.Versions.Telling.{writer-index}
use Rattle.gateway_core.specs.declared.collected.StoreVersion.{StoreVersion}
use Rattle.gateway_core.specs.Lived.{plan_again, version_in}
use Rattle.gateway_laws.specs.Gateways.{IsRelay, set_of}
use Rattle.gateway_laws.specs.Origins.{CameWith}
use Rattle.gateway_laws.specs.Relays.{RelayStep, firsts, seconds, stored_rows}
use Rattle.gateway_laws.specs.Sources.{Source, source_at}
use Rattle.gateway_laws.specs.Telling.{HoldsStore, TellsGateway}
use Rattle.gateway_laws.specs.Versions.{versions_kept}
use Rattle.cmd_relay.specs.Telling.{HasLine, TellsHeld, TellsReader, TellsRelay, TellsStores, line_of, seat_in}
use Rattle.cmd_relay.specs.Texts.{IsReaderText, IsTextOf, IsWriterText, TextsOf, held_as, link_text, relayed_as, relayed_line, store_held, stored_text, version_held, versions_of}

line-is : (name : List ℕ) (fields : List Field) (kept : Kept) (store version : Option ℕ) → relayed_line name fields kept store version ≡ line_of name (relayed_as fields kept store version)
unfolding relayed_line
line-is name fields kept store version = refl

line-by : (name : List ℕ) (fields : List Field) (kept : Kept) (store version : Option ℕ) (row : Option (List DataValue)) → kept.row ≡ row
    → relayed_line name fields kept store version ≡ line_of name (held_as fields kept store version row)
line-by name fields kept store version row is =
    line-is name fields kept store version ∙ ap (λ (o : Option (List DataValue)). line_of name (held_as fields kept store version o)) is

pub waits : (second : Config) (steps : List Step) (kept : ℕ → List StoreVersion) (r i g w : ℕ) (line : List ℕ) → g < length second.group → IsMatchedIn second r i g w
    → IsReaderText second steps kept (r, i) line → (reader_at second r i steps).kept.row ≡ None
    → line ≡ line_of (seat_in second r i).part.name (waits_text (reader_at second r i steps).kept.why)
waits second steps kept r i g w line low matched is row =
    is.matched g w low matched
    ∙ line-by (seat_in second r i).part.name (seat_in second r i).meta.fields (reader_at second r i steps).kept (store_held second steps r i g w) (version_held second steps kept r i g w) None row

-- a version that is told of a store is that which it came with
abbrev pub CameLaw : Plan → Type 0
CameLaw p = (source : Source) (relay : List RelayStep) (store version : ℕ) → version_in (versions_kept p source relay) store ≡ Some version
    → ((store ≡ 0) × (version ≡ 0)) ⊎ CameWith p source (firsts relay) store version

-- the law of the turns with a data frame
abbrev pub StoresLaw : Plan → Config → List Source → List RelayStep → Type 0
StoresLaw p second sources relay = (g w : ℕ) (later before : List WriterDeed) (turn : WriterTurn) → w < length (group_at second g).writer
    → writer_deeds (plan_again second) g w (seconds relay) ≡ later ++ HadTurn turn ∷ before → is_data (answered_turn (settings_at (group_at second g) w) before turn) ≡ true
    → PublishesVersion (plan_again second) (seconds relay) (settings_at (group_at second g) w) (set_of second g w) (stored_rows p.config second sources (firsts relay)) before turn

pub held : (p : Plan) (second : Config) (sources : List Source) (relay : List RelayStep) (rows : ℕ → ℕ → List DataValue) (r i g w : ℕ) (row : List DataValue) (line : List ℕ)
    → g < length second.group → IsMatchedIn second r i g w → IsReaderText second (seconds relay) (versions_of p sources relay) (r, i) line
    → (reader_at second r i (seconds relay)).kept.row ≡ Some row → HoldsStore p second sources relay rows r i g w row → CameLaw p
    → TellsHeld p second sources relay rows r i g w row line
held p second sources relay rows r i g w row line low matched is row_is holds came =
    let kept = (reader_at second r i (seconds relay)).kept in
    let seat = seat_in second r i in
    let source = source_at sources (set_of second g w) in
    let h = holds.relayed.holds in
    let store_is : store_held second (seconds relay) r i g w ≡ Some holds.relayed.store = ap (option_and_then (version_of (log_at (plan_again second) g w (seconds relay)))) h.number_is ∙ h.named in
    record {
      holds = holds;
      text_is = is.matched g w low matched
          ∙ line-by seat.part.name seat.meta.fields kept (store_held second (seconds relay) r i g w) (version_held second (seconds relay) (versions_of p sources relay) r i g w) (Some row) row_is
          ∙ ap (λ (o : Option ℕ). line_of seat.part.name (stored_text kept.number o (option_and_then (version_in (versions_kept p source relay)) o) ++ fields_text seat.meta.fields row)) store_is;
      came = λ v v_is. came source relay holds.relayed.store v v_is;
    }

-- ---- the line of a reader

reader-on : (p : Plan) (second : Config) (sources : List Source) (relay : List RelayStep) (rows : ℕ → ℕ → List DataValue) (r i g w : ℕ) (line : List ℕ) (o : Option (List DataValue))
    → (reader_at second r i (seconds relay)).kept.row ≡ o → g < length second.group → IsMatchedIn second r i g w → IsReaderText second (seconds relay) (versions_of p sources relay) (r, i) line
    → ((row : List DataValue) → (reader_at second r i (seconds relay)).kept.row ≡ Some row → HoldsStore p second sources relay rows r i g w row) → CameLaw p
    → TellsReader p second sources relay rows r i g w line
reader-on p second sources relay rows r i g w line None e low matched is holds came = inl (e, waits second (seconds relay) (versions_of p sources relay) r i g w line low matched is e)
reader-on p second sources relay rows r i g w line (Some row) e low matched is holds came = inr (row, held p second sources relay rows r i g w row line low matched is e (holds row e) came)

-- ---- where lines stand in a text

shorter-text : (a b c d : List ℕ) → a ++ (b ++ c ++ d) ≡ (a ++ b) ++ c ++ d
shorter-text a b c d = sym (append_assoc a (b ++ c) d) ∙ ap (λ (l : List ℕ). l ++ d) (sym (append_assoc a b c))

line-in : (IsText : MemberPlace → List ℕ → Type 0) (places : List MemberPlace) (text : List ℕ) (k : ℕ) (place : MemberPlace) → TextsOf IsText places text → slice_get places k ≡ Some place → HasLine text (IsText place)
line-in IsText [] text k place are at = absurd (cc)
line-in IsText (x ∷ places) text zero place (one, rest, is, later, whole) at =
    let same : x ≡ place = cc in record { front = []; line = one; behind = rest; whole = whole; tells = subst (λ (p : MemberPlace). IsText p one) same is }
line-in IsText (x ∷ places) text (suc k) place (one, rest, is, later, whole) at =
    let h = line-in IsText places rest k place later at in
    record { front = one ++ h.front; line = h.line; behind = h.behind; whole = whole ∙ ap (λ (l : List ℕ). one ++ l) h.whole ∙ shorter-text one h.front h.line h.behind; tells = h.tells }

line-within : (Tells : List ℕ → Type 0) (front part behind text : List ℕ) → text ≡ front ++ part ++ behind → HasLine part Tells → HasLine text Tells
line-within Tells front part behind text is h = record {
  front = front ++ h.front;
  line = h.line;
  behind = h.behind ++ behind;
  whole = is ∙ ap (λ (l : List ℕ). front ++ l ++ behind) h.whole ∙ ap (λ (l : List ℕ). l ++ behind) (shorter-text front h.front h.line h.behind) ∙ append_assoc ((front ++ h.front) ++ h.line) h.behind behind;
  tells = h.tells;
}

line-so : (One Other : List ℕ → Type 0) (text : List ℕ) → ((line : List ℕ) → One line → Other line) → HasLine text One → HasLine text Other
line-so One Other text so h = record { front = h.front; line = h.line; behind = h.behind; whole = h.whole; tells = so h.line h.tells }

-- ---- the whole text

-- a read group with a reader is there
read-group-there : (config : Config) (r i : ℕ) → i < length (read_group_at config r).reader → r < length config.readgroup
read-group-there config r i within = on (cases_lt r (length config.readgroup))
  where
    on : (r < length config.readgroup) ⊎ (length config.readgroup ≤ r) → r < length config.readgroup
    on (inl less) = less
    on (inr past) =
        let none : length (read_group_at config r).reader ≡ 0 = ap (λ (group : ReadGroupPart). length group.reader) (get_or_past config.readgroup r no_read_group past) in
        absurd (omega (arith, within, none))

pub stores-told : (p : Plan) (second : Config) (sources : List Source) (relay : List RelayStep) (rows : ℕ → ℕ → List DataValue) → TellsGateway p second sources relay rows → StoresLaw p second sources relay
    → (g w : ℕ) (line : List ℕ) → w < length (group_at second g).writer → IsWriterText second (seconds relay) (g, w) line → TellsStores p second sources relay rows g w line
stores-told p second sources relay rows gateway publish g w line within is = record {
  text_is = is;
  never_fall = gateway.never_fall g w within;
  each = λ place store has. gateway.stores g w place store within has;
  publish = λ later before turn split sends. publish g w later before turn within split sends;
}

module _ (p : Plan) (first second : Config) (sources : List Source) (relay : List RelayStep) (rows : ℕ → ℕ → List DataValue) (closed : Closed) (text : List ℕ) (gateway : TellsGateway p second sources relay rows) (came : CameLaw p) where
  pub tells-relay : StoresLaw p second sources relay → IsTextOf first closed second (seconds relay) (versions_of p sources relay) text → TellsRelay p second sources relay rows text
  tells-relay publish is =
      let steps = seconds relay in
      let kept = versions_of p sources relay in
      let link = link_text (journal (plan_again second) steps) in
      record {
        writers = λ g w within.
            (let place = writer-place second g w (writer-index second g w within) within in
            line-within (TellsStores p second sources relay rows g w) is.report is.writers (is.readers ++ (link ++ end_line)) text
            (is.text_is ∙ append_assoc (is.report ++ is.writers ++ is.readers) link end_line ∙ append_assoc (is.report ++ is.writers) is.readers (link ++ end_line))
            (line-so (IsWriterText second steps (g, w)) (TellsStores p second sources relay rows g w) is.writers (λ line own. stores-told p second sources relay rows gateway publish g w line within own)
            (line-in (IsWriterText second steps) (writer_places second) is.writers place.0 (g, w) is.writers_are place.1)));
        readers = λ r i g w numbered honest.
            (let place = reader-place second r i (read-group-there second r i numbered.matched.within) numbered.matched.within in
            line-within (TellsReader p second sources relay rows r i g w) (is.report ++ is.writers) is.readers (link ++ end_line) text
            (is.text_is ∙ append_assoc (is.report ++ is.writers ++ is.readers) link end_line)
            (line-so (IsReaderText second steps kept (r, i)) (TellsReader p second sources relay rows r i g w) is.readers
            (λ line own. reader-on p second sources relay rows r i g w line (reader_at second r i steps).kept.row refl numbered.there numbered.matched own (λ row e. gateway.readers r i g w row numbered honest e) came)
            (line-in (IsReaderText second steps kept) (reader_places second) is.readers place.0 (r, i) is.readers_are place.1)));
        never_older = gateway.never_older;
      }

-- the law of the text
abbrev pub LinesLaw : Type 0
LinesLaw = (p : Plan) (first second : Config) (sources : List Source) (relay : List RelayStep) (rows : ℕ → ℕ → List DataValue) (closed : Closed) (text : List ℕ)
    → IsRelay p second sources relay → AreVersions p (firsts relay) rows → IsTextOf first closed second (seconds relay) (versions_of p sources relay) text
    → TellsRelay p second sources relay rows text
