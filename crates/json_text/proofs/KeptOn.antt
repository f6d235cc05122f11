-- A reader and one part more.
use Rattle.std.proofs.Common.{◌≡◌, ℕ, List, [], ◌∷◌, ◌++◌, Bool, true, false, cond, Some, None, refl, ap, ◌∙◌, subst, arith}
use Rattle.std.specs.List.{filter_map, cons_option}
use Rattle.std.proofs.lemmas.Bool.Decides.{nat_tests}
use Rattle.std.proofs.lemmas.List.{map-append, reverse-append}
use Rattle.dataset_meta.specs.Metas.{MetaData}
use Rattle.frame_codec.specs.Frames.{Frame}
use Rattle.frame_codec.specs.Words.{IsFrameOf, frame_in}
use Rattle.dataset_reader.specs.declared.took.Numbering.{Numbering}
use Rattle.dataset_reader.specs.Cases.{frame_case}
use Rattle.dataset_reader.specs.Keeping.{Event, Framed, kept_after}
use Rattle.ps_config.specs.declared.parts.Config.{Config}
use Rattle.ps_config.specs.declared.parts.ReaderPart.{ReaderPart}
use Rattle.reader_group.specs.Members.{numbering_of}
use Rattle.json_frames.specs.declared.message.JsonPart.{JsonPart}
use Rattle.json_frames.specs.Parts.{Part, IsPartOf, meta_at, part_in, parts_in}
use Rattle.json_text.specs.Readers.{brought, came, is_for, kept_for, kept_on}

pub same_set : (reader : ReaderPart) (writer set : ℕ) → is_for reader writer set ≡ true → set ≡ reader.dataset
same_set reader writer set is = grind (arith, nat_tests)

-- a part that the reader is given is of its meta
pub is_its_frame : (metas : List MetaData) (reader : ReaderPart) (part : JsonPart) → IsPartOf metas part → is_for reader part.writer part.set ≡ true
    → IsFrameOf (meta_at metas reader.dataset) part.frame
is_its_frame metas reader part is ours =
    subst (λ (set : ℕ). IsFrameOf (meta_at metas set) part.frame) (same_set reader part.writer part.set ours) is.frame

came_more : (reader : ReaderPart) (before : List Part) (part : Part) → came reader (before ++ part ∷ []) ≡ cons_option (brought reader part) (came reader before)
came_more reader before part = ap (filter_map (brought reader)) (reverse-append before (part ∷ []))

kept_step : (b : Bool) (numbering : Numbering) (major : ℕ) (frame its : Frame) (events : List Event) → (b ≡ true → frame ≡ its)
    → kept_after numbering major (cons_option (cond b (Some (Framed frame None)) None) events) ≡ kept_on numbering major (kept_after numbering major events) b its
kept_step true numbering major frame its events same = ap (λ (f : Frame). (frame_case numbering major (kept_after numbering major events) f None).0) (same refl)
kept_step false numbering major frame its events same = refl

pub kept_more : (config : Config) (reader : ReaderPart) (before : List JsonPart) (part : JsonPart)
    → kept_for config (parts_in config.dataset (before ++ part ∷ [])) reader
    ≡ kept_on (numbering_of reader.numbering) (meta_at config.dataset reader.dataset).major (kept_for config (parts_in config.dataset before) reader)
    (is_for reader part.writer part.set) (frame_in (meta_at config.dataset reader.dataset).fields part.frame)
kept_more config reader before part =
    let metas = config.dataset in
    let numbering = numbering_of reader.numbering in
    let major = (meta_at metas reader.dataset).major in
    ap (λ (l : List Part). kept_for config l reader) (map-append (part_in metas) before (part ∷ []))
    ∙ ap (kept_after numbering major) (came_more reader (parts_in metas before) (part_in metas part))
    ∙ kept_step (is_for reader part.writer part.set) numbering major (part_in metas part).frame (frame_in (meta_at metas reader.dataset).fields part.frame)
    (came reader (parts_in metas before))
    (λ ours. ap (λ (set : ℕ). frame_in (meta_at metas set).fields part.frame) (same_set reader part.writer part.set ours))
