-- One of a group's writers begins anew, at another number.
use Rattle.std.proofs.Common.{◌≡◌, ◌≢◌, ℕ, ◌<◌, ◌≤◌, List, [], length, get_or, set, ◌-◌, refl, sym, ap, subst, ◌∙◌, arith, inl, inr, All}
use Rattle.std.specs.Prelude.{◌⊎◌, vec_len}
use Rattle.std.specs.List.{HoldsAt}
use Rattle.std.proofs.lemmas.Bool.{cases_eq}
use Rattle.std.proofs.lemmas.List.{get_or-set_other, get_or-set_same, length-set}
use Rattle.dataset_meta.specs.Metas.{MetaData, no_meta}
use Rattle.pubsub_model.specs.Cadence.{WriterDeed}
use Rattle.dataset_writer.specs.declared.settings.WriterSettings.{WriterSettings}
use Rattle.dataset_writer.specs.declared.writer.Writer.{Writer}
use Rattle.dataset_writer.specs.Standing.{HoldsRowOf, IsWriter}
use Rattle.dataset_writer.specs.Turns.{beginning_at}
use Rattle.fixed_layout.specs.declared.slot.Slot.{Slot}
use Rattle.fixed_layout.specs.Slots.{layout_of}
use Rattle.ps_config.specs.declared.parts.Config.{Config}
use Rattle.ps_config.specs.declared.parts.GroupPart.{GroupPart}
use Rattle.ps_config.specs.declared.parts.WriterPart.{WriterPart}
use Rattle.ps_config.specs.Beginning.{config_beginning, group_beginning, writer_beginning}
use Rattle.ps_config.specs.FixedSound.{writer_slot}
use Rattle.ps_config.specs.Headers.{publisher_value, signature_len}
use Rattle.ps_config.specs.Rooms.{header_settings}
use Rattle.ps_config.proofs.Beginning.{changed-here, changed-length, changed-map, changed-other}
use Rattle.writer_group.specs.declared.group.Group.{Group}
use Rattle.writer_group.specs.declared.leads.Leads.{Leads}
use Rattle.writer_group.specs.Answering.{HasLived}
use Rattle.writer_group.specs.Leads.{AreLeadsOf}
use Rattle.writer_group.specs.Payloads.{fixed_header, no_writer, writer_at}
use Rattle.writer_group.specs.Standing.{AreSameBut, GoesOnBegun, IsGroup, IsMadeAt, IsMadeBeginning, IsMadeFor, KeepsTo, MayGoOn, index_of, metas_for}
use Rattle.writer_group.specs.Turns.{GroupDeed, settings_of, writer_past}

-- the writer with this index began anew at this number, and nothing else was done
pub record IsBegun (index first : ℕ) (old new : Group) (writer fresh : Writer) : Type 0 where
  pub within : index < length old.writers.items
  pub old_is : (d : Writer) → get_or old.writers.items index d ≡ writer
  pub new_is : new.writers.items ≡ set old.writers.items index fresh
  pub made : new.made ≡ old.made
  pub moment : new.turned_at ≡ old.turned_at
  pub stands : (meta other : MetaData) (settings : WriterSettings) (deeds : List WriterDeed) → IsWriter meta settings deeds writer → IsWriter other (beginning_at first settings) [] fresh
  pub holds : (meta : MetaData) → HoldsRowOf meta fresh
  pub left : fresh.left ≡ writer.left

here-is : (index first : ℕ) (old new : Group) (writer fresh : Writer) (d : Writer) → IsBegun index first old new writer fresh → get_or new.writers.items index d ≡ fresh
here-is index first old new writer fresh d is = ap (λ (l : List Writer). get_or l index d) is.new_is ∙ get_or-set_same old.writers.items index fresh d is.within

other-is : (index first : ℕ) (old new : Group) (writer fresh : Writer) (w : ℕ) (d : Writer) → IsBegun index first old new writer fresh → w ≢ index
    → get_or new.writers.items w d ≡ get_or old.writers.items w d
other-is index first old new writer fresh w d is differs = ap (λ (l : List Writer). get_or l w d) is.new_is ∙ get_or-set_other old.writers.items index w fresh d differs

-- the settings of that writer have the number, and those of the others are as before
settings-here : (index first : ℕ) (part : GroupPart) → index < length part.writer → settings_of (writer_at (group_beginning index first part) index) ≡ beginning_at first (settings_of (writer_at part index))
settings-here index first part within = ap settings_of (changed-here index (writer_beginning first) part.writer no_writer within)

settings-other : (index first w : ℕ) (part : GroupPart) → w ≢ index → settings_of (writer_at (group_beginning index first part) w) ≡ settings_of (writer_at part w)
settings-other index first w part differs = ap settings_of (changed-other index (writer_beginning first) part.writer w no_writer differs)

pub group-begun : (metas others : ℕ → MetaData) (part : GroupPart) (past : List GroupDeed) (index first : ℕ) (old new : Group) (writer fresh : Writer)
    → IsBegun index first old new writer fresh → AreSameBut index (length part.writer) metas others → writer_past index past ≡ []
    → IsGroup metas part past old → IsGroup others (group_beginning index first part) past new
group-begun metas others part past index first old new writer fresh is same unturned stand =
    record { writers = writers; made = is.made ∙ stand.made; moment = is.moment ∙ stand.moment }
  where
    part' : GroupPart
    part' = group_beginning index first part

    begun : index < length part.writer → (d : Writer) → IsWriter (others index) (settings_of (writer_at (group_beginning index first part) index)) (writer_past index past) (get_or new.writers.items index d)
    begun within d =
        let had : IsWriter (metas index) (settings_of (writer_at part index)) (writer_past index past) writer =
        subst (IsWriter (metas index) (settings_of (writer_at part index)) (writer_past index past)) (is.old_is d) (stand.writers index within d) in
        subst (λ (s : WriterSettings). IsWriter (others index) s (writer_past index past) (get_or new.writers.items index d)) (sym (settings-here index first part within))
        (subst (λ (deeds : List WriterDeed). IsWriter (others index) (beginning_at first (settings_of (writer_at part index))) deeds (get_or new.writers.items index d)) (sym unturned)
        (subst (IsWriter (others index) (beginning_at first (settings_of (writer_at part index))) []) (sym (here-is index first old new writer fresh d is))
        (is.stands (metas index) (others index) (settings_of (writer_at part index)) (writer_past index past) had)))

    writers : (w : ℕ) → w < length (group_beginning index first part).writer
        → HoldsAt (IsWriter (others w) (settings_of (writer_at (group_beginning index first part) w)) (writer_past w past)) new.writers.items w
    writers w below d = by_index (cases_eq w index)
      where
        within : w < length part.writer
        within = omega (arith, below, changed-length index (writer_beginning first) part.writer)

        by_index : (w ≡ index) ⊎ (w ≡ index → ⊥) → IsWriter (others w) (settings_of (writer_at (group_beginning index first part) w)) (writer_past w past) (get_or new.writers.items w d)
        by_index (inl here) =
            let there : index < length part.writer = omega (arith, here, within) in
            subst (λ (n : ℕ). IsWriter (others n) (settings_of (writer_at (group_beginning index first part) n)) (writer_past n past) (get_or new.writers.items n d)) (sym here) (begun there d)
        by_index (inr differs) =
            subst (λ (meta : MetaData). IsWriter meta (settings_of (writer_at (group_beginning index first part) w)) (writer_past w past) (get_or new.writers.items w d)) (sym (same w within differs))
            (subst (λ (s : WriterSettings). IsWriter (metas w) s (writer_past w past) (get_or new.writers.items w d)) (sym (settings-other index first w part differs))
            (subst (IsWriter (metas w) (settings_of (writer_at part w)) (writer_past w past)) (sym (other-is index first old new writer fresh w d is differs)) (stand.writers w within d)))

pub goes-begun : (metas others : ℕ → MetaData) (part : GroupPart) (turns index first : ℕ) (old new : Group) (writer fresh : Writer) → IsBegun index first old new writer fresh
    → index < length part.writer → AreSameBut index (vec_len old.writers) metas others → vec_len new.writers ≡ vec_len old.writers → vec_len old.writers ≡ length old.writers.items
    → MayGoOn metas part turns old → MayGoOn others (group_beginning index first part) turns new
goes-begun metas others part turns index first old new writer fresh is there same count long goes = record { left = left; holds = holds; lived = lived }
  where
    items : length new.writers.items ≡ length old.writers.items
    items = ap length is.new_is ∙ length-set old.writers.items index fresh

    left : All (λ (x : Writer). turns ≤ x.left) new.writers.items
    left w d within = by_index (cases_eq w index)
      where
        by_index : (w ≡ index) ⊎ (w ≡ index → ⊥) → turns ≤ (get_or new.writers.items w d).left
        by_index (inl here) =
            let had : turns ≤ (get_or old.writers.items index d).left = goes.left index d is.within in
            omega (
              arith,
              had,
              is.left,
              ap (λ (x : Writer). x.left) (is.old_is d),
              ap (λ (n : ℕ). (get_or new.writers.items n d).left) here,
              ap (λ (x : Writer). x.left) (here-is index first old new writer fresh d is),
            )
        by_index (inr differs) =
            let had : turns ≤ (get_or old.writers.items w d).left = goes.left w d (omega (arith, items, within)) in
            omega (arith, had, ap (λ (x : Writer). x.left) (other-is index first old new writer fresh w d is differs))

    holds : (w : ℕ) → w < vec_len new.writers → HoldsAt (HoldsRowOf (others w)) new.writers.items w
    holds w within d = by_index (cases_eq w index)
      where
        by_index : (w ≡ index) ⊎ (w ≡ index → ⊥) → HoldsRowOf (others w) (get_or new.writers.items w d)
        by_index (inl here) =
            subst (λ (n : ℕ). HoldsRowOf (others w) (get_or new.writers.items n d)) (sym here)
            (subst (HoldsRowOf (others w)) (sym (here-is index first old new writer fresh d is)) (is.holds (others w)))
        by_index (inr differs) =
            subst (λ (meta : MetaData). HoldsRowOf meta (get_or new.writers.items w d)) (sym (same w (omega (arith, count, within)) differs))
            (subst (HoldsRowOf (metas w)) (sym (other-is index first old new writer fresh w d is differs)) (goes.holds w (omega (arith, count, within)) d))

    lived : (w : ℕ) → w < vec_len new.writers → HoldsAt (HasLived (others w) (settings_of (writer_at (group_beginning index first part) w))) new.writers.items w
    lived w within d = by_index (cases_eq w index)
      where
        fresh_lived : HasLived (others index) (settings_of (writer_at (group_beginning index first part) index)) fresh
        fresh_lived =
            let had : HasLived (metas index) (settings_of (writer_at part index)) writer =
            subst (HasLived (metas index) (settings_of (writer_at part index))) (is.old_is writer) (goes.lived index (omega (arith, long, is.within)) writer) in
            subst (λ (s : WriterSettings). HasLived (others index) s fresh) (sym (settings-here index first part there))
            (record { deeds = []; stands = is.stands (metas index) (others index) (settings_of (writer_at part index)) had.deeds had.stands })

        by_index : (w ≡ index) ⊎ (w ≡ index → ⊥) → HasLived (others w) (settings_of (writer_at (group_beginning index first part) w)) (get_or new.writers.items w d)
        by_index (inl here) =
            subst (λ (n : ℕ). HasLived (others n) (settings_of (writer_at (group_beginning index first part) n)) (get_or new.writers.items n d)) (sym here)
            (subst (HasLived (others index) (settings_of (writer_at (group_beginning index first part) index))) (sym (here-is index first old new writer fresh d is)) fresh_lived)
        by_index (inr differs) =
            subst (λ (meta : MetaData). HasLived meta (settings_of (writer_at (group_beginning index first part) w)) (get_or new.writers.items w d)) (sym (same w (omega (arith, count, within)) differs))
            (subst (λ (s : WriterSettings). HasLived (metas w) s (get_or new.writers.items w d)) (sym (settings-other index first w part differs))
            (subst (HasLived (metas w) (settings_of (writer_at part w))) (sym (other-is index first old new writer fresh w d is differs)) (goes.lived w (omega (arith, count, within)) d)))

-- what a group was made for doesn't read first numbers
pub made-begun : (config : Config) (g index first : ℕ) (part : GroupPart) (old new : Group) → new.interval ≡ old.interval → new.slots ≡ old.slots → new.rooms ≡ old.rooms → new.leads ≡ old.leads
    → vec_len new.writers ≡ vec_len old.writers → IsMadeFor config part old → IsMadeFor (config_beginning g index first config) (group_beginning index first part) new
made-begun config g index first part old new interval slots rooms leads count made = record {
  interval = interval ∙ made.interval;
  start = ap (λ s. s.start) slots ∙ made.start;
  writers = count ∙ made.writers ∙ sym (changed-length index (writer_beginning first) part.writer);
  slots = λ fixed. slots ∙ made.slots fixed
      ∙ ap (λ (l : List Slot). layout_of (fixed_header config.publisher.id part) (part.max_size - signature_len part.security) l)
      (sym (changed-map (writer_slot config) index (writer_beginning first) part.writer (λ x. refl)));
  rooms = rooms ∙ made.rooms;
  leads = subst (λ (l : Leads). AreLeadsOf (publisher_value config.publisher.id) (header_settings part) l) (sym leads) made.leads;
}

-- the metas of the other writers are as before
metas-same : (config : Config) (count index first : ℕ) (part : GroupPart) → AreSameBut index count (metas_for part config.dataset) (metas_for (group_beginning index first part) config.dataset)
metas-same config count index first part w below differs =
    ap (λ (x : WriterPart). get_or config.dataset x.dataset no_meta) (changed-other index (writer_beginning first) part.writer w no_writer differs)

pub keeps-begun : (config : Config) (index first : ℕ) (old new : Group) → index_of new ≡ index_of old → index < vec_len old.writers → IsMadeBeginning index first old new
    → GoesOnBegun index first old new → KeepsTo config old → KeepsTo (config_beginning (index_of old) index first config) new
keeps-begun config index first old new is within still goes keeps =
    let g = index_of old in
    let there : g < length (config_beginning g index first config).group = omega (arith, keeps.index, changed-length g (group_beginning index first) config.group) in
    record {
      index = subst (λ (k : ℕ). k < length (config_beginning g index first config).group) (sym is) there;
      made = subst (λ (k : ℕ). IsMadeAt (config_beginning g index first config) k new) (sym is)
          (λ d. subst (λ (part : GroupPart). IsMadeFor (config_beginning g index first config) part new) (sym (changed-here g (group_beginning index first) config.group d keeps.index))
          (still config g (get_or config.group g d) (keeps.made d)));
      goes_on = subst (λ (k : ℕ). HoldsAt (λ part. MayGoOn (metas_for part config.dataset) part 0 new) (config_beginning g index first config).group k) (sym is)
          (λ d.
          let part : GroupPart = get_or config.group g d in
          let here : index < length part.writer = omega (arith, within, (keeps.made d).writers) in
          subst (λ (p : GroupPart). MayGoOn (metas_for p config.dataset) p 0 new) (sym (changed-here g (group_beginning index first) config.group d keeps.index))
          (goes (metas_for part config.dataset) (metas_for (group_beginning index first part) config.dataset) part 0 here (metas-same config (vec_len old.writers) index first part) (keeps.goes_on d)));
    }

-- a group with another index keeps to its configuration too
pub keeps-beside : (config : Config) (g index first : ℕ) (group : Group) → index_of group ≢ g → KeepsTo config group → KeepsTo (config_beginning g index first config) group
keeps-beside config g index first group differs keeps =
    let own = index_of group in
    let same = λ (d : GroupPart). changed-other g (group_beginning index first) config.group own d differs in
    record {
      index = omega (arith, keeps.index, changed-length g (group_beginning index first) config.group);
      made = λ d. subst (λ (part : GroupPart). IsMadeFor (config_beginning g index first config) part group) (sym (same d)) (made-beside config g index first (get_or config.group own d) group (keeps.made d));
      goes_on = λ d. subst (λ (part : GroupPart). MayGoOn (metas_for part config.dataset) part 0 group) (sym (same d)) (keeps.goes_on d);
    }
  where
    made-beside : (config : Config) (g index first : ℕ) (part : GroupPart) (group : Group) → IsMadeFor config part group → IsMadeFor (config_beginning g index first config) part group
    made-beside config g index first part group made =
        record { interval = made.interval; start = made.start; writers = made.writers; slots = made.slots; rooms = made.rooms; leads = made.leads }
