-- The lines of a gateway, one for each place.
use Rattle.std.proofs.Common.{◌≡◌, refl, sym, ap, ◌∙◌, subst, arith, ℕ, ◌+◌, ◌<◌, ◌≤◌, List, [], ◌∷◌, ◌++◌, length, map, take, append-nil, append_assoc, Option, Some, None, option_and_then}
use Rattle.std.specs.Prelude.{flat_map}
use Rattle.std.specs.List.{range_with_len}
use Rattle.std.proofs.lemmas.List.{take_all}
use Rattle.std.proofs.lemmas.List.FromFn.{map-range_with_len_more}
use Rattle.dataset_meta.specs.declared.field.Field.{Field}
use Rattle.dataset_meta.specs.DataValues.{DataValue}
use Rattle.dataset_meta.specs.Metas.{MetaData}
use Rattle.dataset_reader.specs.Kept.{Kept}
use Rattle.pubsub_model.specs.declared.reading.Why.{Why}
use Rattle.pubsub_model.specs.Answers.{version_of}
use Rattle.ps_config.specs.declared.parts.Config.{Config}
use Rattle.ps_config.specs.declared.parts.ReaderPart.{ReaderPart}
use Rattle.ps_report.specs.Lines.{fields_text, waits_text}
use Rattle.reader_group.specs.Members.{seat_at, seat_of}
use Rattle.reader_group.specs.Settings.{setting_of}
use Rattle.writer_group.specs.Parts.{group_at}
use Rattle.writer_group.specs.Payloads.{writer_at}
use Rattle.session_model.specs.Closing.{MemberPlace}
use Rattle.session_model.specs.Deeds.{log_at}
use Rattle.session_model.specs.Events.{reader_at}
use Rattle.session_model.specs.Steps.{Step}
use Rattle.session_laws.specs.Reading.{IsMatchedIn}
use Rattle.gateway_core.specs.declared.collected.StoreVersion.{StoreVersion}
use Rattle.gateway_core.specs.Lived.{plan_again, version_in}
use Rattle.pubsub_engine.proofs.PlacesInOrder.{group-more}
use Rattle.cmd_relay.specs.Texts.{IsReaderText, TextsOf, Wrote, held_as, reader_line, relayed_as, relayed_line, stored_text}

-- ---- logs

-- the first of a log are all of it, where they are as many
pub whole-log : (own most : ℕ) (log whole : List (ℕ × ℕ)) → log ≡ take own whole → own ≡ most → length whole ≤ most → log ≡ whole
whole-log own most log whole first same few = first ∙ take_all own whole (omega (arith, same, few))

-- ---- texts behind one another

texts-more : (Is : MemberPlace → List ℕ → Type 0) (places : List MemberPlace) (text : List ℕ) (place : MemberPlace) (one : List ℕ) → TextsOf Is places text → Is place one
    → TextsOf Is (places ++ place ∷ []) (text ++ one)
texts-more Is [] text place one is here = (one, [], here, refl, ap (λ (l : List ℕ). l ++ one) is ∙ sym (append-nil one))
texts-more Is (other ∷ places) text place one (first, rest, is, later, whole) here =
    (first, rest ++ one, is, texts-more Is places rest place one later here, ap (λ (l : List ℕ). l ++ one) whole ∙ append_assoc first rest one)

pub wrote-none : (Is : MemberPlace → List ℕ → Type 0) (front : List ℕ) → Wrote Is [] front front
wrote-none Is front = record { text = []; texts = refl; whole_is = sym (append-nil front) }

-- one more of so many
pub wrote-more : (Is : MemberPlace → List ℕ → Type 0) (places : List MemberPlace) (f : ℕ → MemberPlace) (n : ℕ) (front old new one : List ℕ)
    → Wrote Is (places ++ map f (range_with_len 0 n)) front old → Is (f n) one → new ≡ old ++ one → Wrote Is (places ++ map f (range_with_len 0 (n + 1))) front new
wrote-more Is places f n front old new one so_far here pushed =
    subst (λ (l : List MemberPlace). Wrote Is l front new)
    (append_assoc places (map f (range_with_len 0 n)) (f n ∷ []) ∙ ap (λ (l : List MemberPlace). places ++ l) (sym (map-range_with_len_more f 0 n n (omega arith))))
    (record {
      text = so_far.text ++ one;
      texts = texts-more Is (places ++ map f (range_with_len 0 n)) so_far.text (f n) one so_far.texts here;
      whole_is = pushed ∙ ap (λ (l : List ℕ). l ++ one) so_far.whole_is ∙ append_assoc front so_far.text one;
    })

-- the texts of one group more
pub wrote-group : (Is : MemberPlace → List ℕ → Type 0) (f : ℕ → List MemberPlace) (g : ℕ) (front new : List ℕ) → Wrote Is (flat_map f (range_with_len 0 g) ++ f g) front new
    → Wrote Is (flat_map f (range_with_len 0 (g + 1))) front new
wrote-group Is f g front new wrote = subst (λ (l : List MemberPlace). Wrote Is l front new) (sym (group-more f g)) wrote

pub wrote-start : (Is : MemberPlace → List ℕ → Type 0) (places : List MemberPlace) (front whole : List ℕ) → Wrote Is places front whole → Wrote Is (places ++ []) front whole
wrote-start Is places front whole wrote = subst (λ (l : List MemberPlace). Wrote Is l front whole) (sym (append-nil places)) wrote

-- ---- what a reader holds

pub held-none : (fields : List Field) (kept : Kept) (store version : Option ℕ) (why : Why) → kept.row ≡ None → why ≡ kept.why → waits_text why ≡ relayed_as fields kept store version
held-none fields kept store version why none is = ap waits_text is ∙ sym (ap (held_as fields kept store version) none)

pub held-some : (fields : List Field) (kept : Kept) (store version : Option ℕ) (number : Option ℕ) (row : List DataValue) → kept.row ≡ Some row → number ≡ kept.number
    → stored_text number store version ++ fields_text fields row ≡ relayed_as fields kept store version
held-some fields kept store version number row some is =
    ap (λ (n : Option ℕ). stored_text n store version ++ fields_text fields row) is ∙ sym (ap (held_as fields kept store version) some)

-- ---- the line of a reader

pub line-is : (second : Config) (steps : List Step) (kept : ℕ → List StoreVersion) (r i g w : ℕ) (part : ReaderPart) (own : MetaData) (held : Kept) (store version number : Option ℕ) (set : ℕ)
    → seat_at (setting_of second r).seats i ≡ seat_of part own → held ≡ (reader_at second r i steps).kept → number ≡ held.number
    → store ≡ option_and_then (version_of (log_at (plan_again second) g w steps)) number → version ≡ option_and_then (version_in (kept set)) store
    → set ≡ (writer_at (group_at second g) w).dataset
    → relayed_line part.name own.fields held store version ≡ reader_line second steps kept r i g w
line-is second steps kept r i g w part own held store version number set seat held_is number_is store_is version_is set_is =
    let store_held = store_is ∙ ap (option_and_then (version_of (log_at (plan_again second) g w steps))) (number_is ∙ ap (λ (k : Kept). k.number) held_is) in
    let version_held = version_is ∙ ap (λ (n : ℕ). option_and_then (version_in (kept n)) store) set_is
    ∙ ap (option_and_then (version_in (kept (writer_at (group_at second g) w).dataset))) store_held in
    λ k. relayed_line (sym seat k).part.name (sym seat k).meta.fields (held_is k) (store_held k) (version_held k)

pub matched-text : (second : Config) (steps : List Step) (kept : ℕ → List StoreVersion) (r i g w : ℕ) (text : List ℕ) → text ≡ reader_line second steps kept r i g w
    → ((h v : ℕ) → h < length second.group → IsMatchedIn second r i h v → (h ≡ g) × (v ≡ w)) → g < length second.group → IsMatchedIn second r i g w
    → IsReaderText second steps kept (r, i) text
matched-text second steps kept r i g w text is sole there matched = record {
  matched = λ h v low other.
      let same = sole h v low other in is ∙ (λ k. reader_line second steps kept r i (sym same.0 k) (sym same.1 k));
  unmatched = λ none. absurd (none g w there matched);
}
