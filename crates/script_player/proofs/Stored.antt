-- How many stores a reader has, by the keeper and by the steps.
use Rattle.std.proofs.Common.{◌≡◌, ℕ, suc, ◌+◌, ◌<◌, List, [], ◌∷◌, length, map, reverse, get_or, refl, sym, ap, ◌∙◌, arith, length-append, Option, Some}
use Rattle.std.specs.Prelude.{slice_get}
use Rattle.std.specs.List.{flat_map, range_with_len}
use Rattle.std.specs.Option.{option_map_or}
use Rattle.std.proofs.lemmas.List.{length-map, length-reverse}
use Rattle.std.proofs.lemmas.List.FromFn.{length-range_with_len}
use Rattle.std.proofs.lemmas.Option.{slice_get-get_or}
use Rattle.row_words.specs.Belonging.{row_in}
use Rattle.version_cell.specs.declared.rule.Entry.{Entry}
use Rattle.version_cell.specs.Sets.{pass_at}
use Rattle.ps_config.specs.declared.parts.Config.{Config}
use Rattle.ps_config.specs.declared.parts.ReadGroupPart.{ReadGroupPart}
use Rattle.ps_config.specs.Sound.{readers}
use Rattle.reader_group.specs.Settings.{group_at, no_group}
use Rattle.session_model.specs.Steps.{Plan, Step}
use Rattle.session_model.specs.Closing.{MemberPlace, reader_places}
use Rattle.session_model.specs.Events.{reader_indexes}
use Rattle.session_model.specs.Stores.{Store, stores}
use Rattle.pubsub_engine.specs.declared.session.Session.{Session}
use Rattle.pubsub_engine.specs.Standing.{Stands}
use Rattle.pubsub_engine.specs.Storing.{meta_at_place}
use Rattle.script_player.specs.Playing.{stores_at}
use Rattle.script_player.specs.Player.{stored}

-- ---- there is a place for each reader

-- lists made of the indexes from one on are as long together as those of the groups that stand there
count_members : (groups : List ReadGroupPart) (from : ℕ) (members : ℕ → List MemberPlace)
    → ((k : ℕ) → k < length groups → length (members (from + k)) ≡ length (get_or groups k no_group).reader)
    → length (flat_map members (range_with_len from (length groups))) ≡ length (flat_map (λ (group : ReadGroupPart). group.reader) groups)
count_members [] from members h = refl
count_members (group ∷ groups) from members h =
    let here : length (members from) ≡ length group.reader = ap (λ (k : ℕ). length (members k)) (omega arith) ∙ h 0 (omega arith) in
    let rest = count_members groups (from + 1) members (λ k lt. ap (λ (j : ℕ). length (members j)) (omega arith) ∙ h (suc k) (omega arith)) in
    omega (arith, here, rest, length-append (members from) (flat_map members (range_with_len (from + 1) (length groups))), length-append group.reader (flat_map (λ (g : ReadGroupPart). g.reader) groups))

count_places : (config : Config) → length (reader_places config) ≡ length (readers config)
count_places config =
    count_members config.readgroup 0 (λ r. map (λ i. (r, i)) (reader_indexes config r))
    (λ k lt. length-map (reader_indexes config (0 + k)) (λ i. (0 + k, i)) ∙ length-range_with_len 0 (length (group_at config (0 + k)).reader)
    ∙ ap (λ (j : ℕ). length (group_at config j).reader) (omega arith))

-- ---- the keeper has made the stores of the steps

pub stored_is : (p : Plan) (steps : List Step) (s : Session) (reader : ℕ) → Stands p steps s → reader < length (readers p.config) → stored s reader ≡ stores_at p steps reader
stored_is p steps s reader stands lt =
    let here : reader < length (reader_places p.config) = (let e = count_places p.config in omega arith) in
    let place = get_or (reader_places p.config) reader (0, 0) in
    let at : slice_get (reader_places p.config) reader ≡ Some place = slice_get-get_or (reader_places p.config) reader (0, 0) here in
    let list = stores p.config place.0 place.1 steps in
    let seen = (stands.stores_are reader place at).seen in
    let entries = (pass_at s.stores.keeper reader).seen in
    sym (length-map entries (λ (entry : Entry). row_in (meta_at_place p.config place).fields entry.row)) ∙ ap length seen
    ∙ length-map (reverse list) (λ (store : Store). store.row) ∙ length-reverse list
    ∙ sym (ap (λ (o : Option MemberPlace). option_map_or (λ (m : MemberPlace). length (stores p.config m.0 m.1 steps)) o 0) at)
