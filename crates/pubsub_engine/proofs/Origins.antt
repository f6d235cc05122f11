-- Where a reader's last store comes from.
use Rattle.std.proofs.Common.{◌≡◌, ◌≢◌, refl, sym, ap, ◌∙◌, subst, ℕ, Bool, true, false, List, [], ◌∷◌, length, reverse, slice_get, Option, Some, None, option_map, option_and_then}
use Rattle.std.proofs.lemmas.Bool.{false≢true}
use Rattle.std.proofs.lemmas.List.{length-map, length-reverse}
use Rattle.std.proofs.lemmas.Option.{slice_get-map}
use Rattle.dataset_meta.specs.Metas.{MetaData}
use Rattle.pubsub_model.specs.Answers.{version_of as version_in}
use Rattle.ps_config.specs.declared.parts.ReadGroupPart.{ReadGroupPart}
use Rattle.ps_config.specs.declared.parts.ReaderPart.{ReaderPart}
use Rattle.ps_report.specs.Told.{grouped_readers}
use Rattle.reader_group.specs.Members.{seat_at}
use Rattle.reader_group.specs.Settings.{group_at, setting_of}
use Rattle.row_words.specs.Belonging.{row_in}
use Rattle.target_cells.specs.declared.origin.Origin.{Origin}
use Rattle.version_cell.specs.declared.rule.Entry.{Entry}
use Rattle.version_cell.specs.Known.{Known}
use Rattle.session_model.specs.Steps.{Plan}
use Rattle.session_model.specs.Deeds.{Deed}
use Rattle.session_model.specs.Closing.{MemberPlace, reader_places}
use Rattle.session_model.specs.Stores.{Store}
use Rattle.session_parts.specs.declared.publisher.Publisher.{Publisher}
use Rattle.session_parts.specs.Holding.{AreAllLogged}
use Rattle.session_parts.specs.Standing.{HavePast}
use Rattle.pubsub_engine.specs.declared.storing.Last.{Last}
use Rattle.pubsub_engine.specs.Logs.{IsLogRead, log_after, log_by, logs_told}
use Rattle.pubsub_engine.specs.Standing.{IsOriginFrom, IsVersionStored, number_stored}
use Rattle.pubsub_engine.specs.Storing.{HasStored, IsLast}
use Rattle.pubsub_engine.proofs.Places.{grouped_at, grouped-places}

none-there : (list : List Store) (meta : MetaData) (row : List ℕ) (last : Last) → last.is_there ≡ false → IsLast list meta row last → list ≡ []
none-there [] meta row last off is = refl
none-there (store ∷ before) meta row last off is = absurd (false≢true (sym off ∙ is.0))

-- before the first store
pub no-origin : (logs : ℕ → ℕ → List (ℕ × ℕ)) (p : Plan) (place : MemberPlace) (stored : List Store) (meta : MetaData) (row : List ℕ) (last : Last) → last.is_there ≡ false
    → IsLast stored meta row last → IsOriginFrom logs p place stored (record { store = 0; number = None; version = Some 0 })
no-origin logs p place stored meta row last off is = record {
  store = sym (ap length none);
  number = sym (ap number_stored none);
  version = subst (λ (list : List Store). IsVersionStored logs p place list (Some 0)) (sym none) refl;
}
  where
    none : stored ≡ []
    none = none-there stored meta row last off is

-- as many as the keeper's pass has seen
count-seen : (list : List Store) (meta : MetaData) (pass : Known) → HasStored list meta pass → length pass.seen ≡ length list
count-seen list meta pass seen =
    sym (length-map pass.seen (λ (entry : Entry). row_in meta.fields entry.row)) ∙ ap length seen
    ∙ length-map (reverse list) (λ (store : Store). store.row) ∙ length-reverse list

number-is : (list : List Store) (meta : MetaData) (row : List ℕ) (last : Last) → last.is_there ≡ true → IsLast list meta row last → last.number ≡ number_stored list
number-is [] meta row last on is = absurd (false≢true (sym is ∙ on))
number-is (store ∷ before) meta row last on is = is.1

no-version : (number : Option ℕ) → option_and_then (version_in []) number ≡ None
no-version None = refl
no-version (Some n) = refl

version-is : (logs : ℕ → ℕ → List (ℕ × ℕ)) (p : Plan) (place : MemberPlace) (list : List Store) (meta : MetaData) (row : List ℕ) (last : Last) (version : Option ℕ) → last.is_there ≡ true → IsLast list meta row last
    → ((group_at p.config place.0).publisher ≡ p.config.publisher.id
    → version ≡ option_and_then (version_in (log_by logs p.config (seat_at (setting_of p.config place.0).seats place.1).part.writer)) last.number)
    → ((group_at p.config place.0).publisher ≢ p.config.publisher.id → version ≡ None)
    → IsVersionStored logs p place list version
version-is logs p place [] meta row last version on is own other = absurd (false≢true (sym is ∙ on))
version-is logs p place (store ∷ before) meta row last version on is own other =
    (λ same. own same ∙ ap (option_and_then (version_in (log_by logs p.config (seat_at (setting_of p.config place.0).seats place.1).part.writer))) is.1, other)

-- of the last store
pub is-origin : (versions : Bool) (most : ℕ) (p : Plan) (metas : List MetaData) (deeds : List Deed) (place : MemberPlace) (stored : List Store) (meta : MetaData) (row : List ℕ) (last : Last) (pass : Known) (publisher : Publisher) (log : List (ℕ × ℕ)) (origin : Origin) (k : ℕ)
    → last.is_there ≡ true
    → IsLast stored meta row last → HasStored stored meta pass
    → slice_get (reader_places p.config) k ≡ Some place
    → AreAllLogged most publisher.groups.items → HavePast p.config metas deeds publisher.groups.items
    → ((at : ReadGroupPart × ReaderPart) → slice_get (grouped_readers p.config.readgroup) k ≡ Some at → IsLogRead versions p.config publisher at log)
    → origin.store ≡ length pass.seen → origin.number ≡ last.number → origin.version ≡ option_and_then (version_in log) last.number
    → IsOriginFrom (logs_told versions (log_after most p.config deeds)) p place stored origin
is-origin versions most p metas deeds place stored meta row last pass publisher log origin k on is seen at logged past read is_store is_number is_version = record {
  store = is_store ∙ count-seen stored meta pass seen;
  number = is_number ∙ number-is stored meta row last on is;
  version = version-is (logs_told versions (log_after most p.config deeds)) p place stored meta row last origin.version on is
      (λ same. is_version ∙ ap (λ (l : List (ℕ × ℕ)). option_and_then (version_in l) last.number) (named.own same most metas deeds logged past))
      (λ apart. is_version ∙ ap (λ (l : List (ℕ × ℕ)). option_and_then (version_in l) last.number) (named.other apart) ∙ no-version last.number);
}
  where
    named : IsLogRead versions p.config publisher (grouped_at p.config place) log
    named = read (grouped_at p.config place)
        (ap (λ (l : List (ReadGroupPart × ReaderPart)). slice_get l k) (sym (grouped-places p.config))
        ∙ slice_get-map (grouped_at p.config) (reader_places p.config) k ∙ ap (option_map (grouped_at p.config)) at)
