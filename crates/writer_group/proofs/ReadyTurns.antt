-- Groups that keep to their configuration, and when one may have a turn.
use Rattle.std.proofs.Common.{◌≡◌, ℕ, ◌+◌, ◌<◌, List, [], ◌∷◌, Bool, length, get_or, drop, refl, sym, subst, ap, ◌∙◌, arith, add-zero, Option}
use Rattle.std.specs.List.{AllZip, HoldsAt}
use Rattle.std.proofs.lemmas.List.{get_or-drop, get_or_default, length-drop, drop_more}
use Rattle.std.proofs.lemmas.Slice.Zip.{AllZip-long}
use Rattle.dataset_meta.specs.Metas.{MetaData}
use Rattle.row_words.specs.Belonging.{Belongs}
use Rattle.message_guard.specs.Senders.{SenderState}
use Rattle.ps_config.specs.declared.parts.Config.{Config}
use Rattle.ps_config.specs.declared.parts.GroupPart.{GroupPart}
use Rattle.ps_config.specs.Sound.{IsGroup as IsSoundGroup}
use Rattle.writer_group.specs.declared.group.Group.{Group}
use Rattle.writer_group.specs.declared.sampled.Sampled.{Sampled}
use Rattle.writer_group.specs.Making.{passed}
use Rattle.writer_group.specs.Standing.{AreRowsFrom, AreRowsOf, GoesOnAt, GoesOnRefreshed, IsGood, IsInOrder, IsMadeAt, IsMadeFor, IsSenderFor, IsStillMade, KeepsTo, MayGoOn, MayTick, MayTickAt, MayTurnAt, index_of, metas_for}

-- ---- keeping to the configuration

-- it may have no turn where it may have some
no-turn : (metas : ℕ → MetaData) (part : GroupPart) (turns : ℕ) (group : Group) → MayGoOn metas part turns group → MayGoOn metas part 0 group
no-turn metas part turns group may = record { left = λ k d within. omega arith; holds = may.holds; lived = may.lived }

pub keeps-new : (config : Config) (index turns : ℕ) (group : Group) → index_of group ≡ index → index < length config.group → IsMadeAt config index group
    → MayTurnAt config index turns group → KeepsTo config group
keeps-new config index turns group is within made goes = record {
  index = subst (λ (k : ℕ). k < length config.group) (sym is) within;
  made = subst (λ (k : ℕ). IsMadeAt config k group) (sym is) made;
  goes_on = subst (λ (k : ℕ). HoldsAt (λ part. MayGoOn (metas_for part config.dataset) part 0 group) config.group k) (sym is)
      (λ d. let part : GroupPart = get_or config.group index d in no-turn (metas_for part config.dataset) part turns group (goes d (metas_for part config.dataset)));
}

pub keeps-refreshed : (config : Config) (index : ℕ) (old new : Group) → index_of new ≡ index_of old → IsStillMade old new → GoesOnRefreshed index old new
    → KeepsTo config old → KeepsTo config new
keeps-refreshed config index old new is still goes keeps = record {
  index = subst (λ (k : ℕ). k < length config.group) (sym is) keeps.index;
  made = subst (λ (k : ℕ). IsMadeAt config k new) (sym is) (λ d. still config (get_or config.group (index_of old) d) (keeps.made d));
  goes_on = subst (λ (k : ℕ). HoldsAt (λ part. MayGoOn (metas_for part config.dataset) part 0 new) config.group k) (sym is)
      (λ d.
      let part : GroupPart = get_or config.group (index_of old) d in
      let metas : ℕ → MetaData = metas_for part config.dataset in
      goes metas metas part 0 (λ writer below other. refl) (keeps.goes_on d));
}

-- counting the datagrams of a turn leaves what it was made for
pub passed-made : (config : Config) (part : GroupPart) (now : ℕ) (closing : Bool) (count : ℕ) (before after : Group) → after ≡ passed now closing count before
    → IsMadeFor config part before → IsMadeFor config part after
passed-made config part now closing count before after is made =
    subst (IsMadeFor config part) (sym is)
    (record { interval = made.interval; start = made.start; writers = made.writers; slots = made.slots; rooms = made.rooms; leads = made.leads })

pub keeps-ticked : (config : Config) (metas : List MetaData) (rows : List Sampled) (on : List Bool) (sender : Option SenderState) (old new : Group)
    → index_of new ≡ index_of old → index_of old < length config.group → IsMadeAt config (index_of old) new → GoesOnAt config metas old new
    → MayTickAt config metas rows on sender old → metas ≡ config.dataset → KeepsTo config new
keeps-ticked config metas rows on sender old new is within made goes may same = record {
  index = subst (λ (k : ℕ). k < length config.group) (sym is) within;
  made = subst (λ (k : ℕ). IsMadeAt config k new) (sym is) made;
  goes_on = subst (λ (k : ℕ). HoldsAt (λ part. MayGoOn (metas_for part config.dataset) part 0 new) config.group k) (sym is)
      (λ d.
      let part : GroupPart = get_or config.group (index_of old) d in
      subst (λ (l : List MetaData). MayGoOn (metas_for part l) part 0 new) same (goes d 0 (may d).goes_on));
}

-- ---- the conditions of a turn

-- the rows of the data sets from this place on
rows-zip : (set : ℕ) (all metas : List MetaData) (rows : List Sampled) → drop set all ≡ metas → length rows ≡ length metas → AreRowsFrom set all rows
    → AllZip (λ meta sampled. Belongs meta sampled.row.words) metas rows
rows-zip set all [] [] at same are = tt
rows-zip set all [] (sampled ∷ rows) at same are = absurd (omega (arith, same))
rows-zip set all (meta ∷ metas) [] at same are = absurd (omega (arith, same))
rows-zip set all (meta ∷ metas) (sampled ∷ rows) at same are =
    let first : get_or all set meta ≡ meta =
    sym (get_or-drop set all 0 meta ∙ ap (λ (k : ℕ). get_or all k meta) (add-zero set)) ∙ ap (λ (l : List MetaData). get_or l 0 meta) at in
    let within : set < length all = omega (arith, ap length at, length-drop set all) in
    let rest : drop (set + 1) all ≡ metas = ap (drop 1) (sym (drop_more all set meta within) ∙ at) in
    (subst (λ (m : MetaData). Belongs m sampled.row.words) first (are.0 meta), rows-zip (set + 1) all metas rows rest (omega (arith, same)) are.1)

pub may-turn : (config : Config) (rows : List Sampled) (on : List Bool) (sender : Option SenderState) (group : Group) (part : GroupPart) → IsGood config
    → KeepsTo config group → AreRowsOf config.dataset rows → part ≡ get_or config.group (index_of group) part
    → IsInOrder config part rows on sender group → MayTickAt config config.dataset rows on sender group
may-turn config rows on sender group part good keeps rows_are is given = λ d.
    let own : GroupPart = get_or config.group (index_of group) d in
    let same : part ≡ own = is ∙ get_or_default config.group (index_of group) part d keeps.index in
    let sound : IsSoundGroup config own = good.sound.groups (index_of group) d keeps.index in
    record {
      made = keeps.made d;
      metas_are = record { count = refl; fixed = λ fixed writer within. refl; room = sound.room };
      sampled = record { rows_are = rows-zip 0 config.dataset config.dataset rows refl given.rows_are rows_are; on_are = given.on_are ∙ (keeps.made d).writers };
      goes_on = record { left = given.left; holds = (keeps.goes_on d).holds; lived = (keeps.goes_on d).lived };
      sender_is = subst (λ (p : GroupPart). IsSenderFor p sender) same given.sender_is;
    }

pub in-order : (config : Config) (rows : List Sampled) (on : List Bool) (sender : Option SenderState) (group : Group) (part : GroupPart)
    → KeepsTo config group → part ≡ get_or config.group (index_of group) part → MayTickAt config config.dataset rows on sender group
    → IsInOrder config part rows on sender group
in-order config rows on sender group part keeps is may =
    let own : MayTick config config.dataset rows on sender group part = subst (MayTick config config.dataset rows on sender group) (sym is) (may part) in
    record {
      rows_are = AllZip-long (λ (meta : MetaData) (sampled : Sampled). Belongs meta sampled.row.words) config.dataset rows own.sampled.rows_are;
      on_are = own.sampled.on_are ∙ sym own.made.writers;
      left = own.goes_on.left;
      sender_is = own.sender_is;
    }
