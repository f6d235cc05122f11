-- Groups where a data set has a field more.
use Rattle.std.proofs.Common.{◌≡◌, ℕ, suc, ◌<◌, List, ◌∷◌, false, length, get_or, set, sym, ◌∙◌, subst, arith}
use Rattle.std.specs.Prelude.{◌≢◌, All}
use Rattle.std.specs.List.{HoldsAt}
use Rattle.std.proofs.lemmas.Bool.{true≢false}
use Rattle.std.proofs.lemmas.List.{get_or-set_other, length-set}
use Rattle.dataset_meta.specs.Metas.{MetaData, no_meta}
use Rattle.dataset_writer.specs.Standing.{HoldsRowOf}
use Rattle.ps_config.specs.declared.parts.Config.{Config}
use Rattle.ps_config.specs.Rooms.{is_fixed, lacks_room}
use Rattle.writer_group.specs.declared.group.Group.{Group}
use Rattle.writer_group.specs.Answering.{HasLived}
use Rattle.writer_group.specs.Payloads.{meta_at, no_writer, writer_at}
use Rattle.writer_group.specs.Standing.{IsMadeFor, MayGoOn, metas_for}
use Rattle.writer_group.specs.Turns.{settings_of}
use Rattle.cases_group.specs.declared.turners.Turner.{Turner}
use Rattle.cases_group.specs.Kept.{GrowsAt, IsTurner}

-- one data set in another's place
pub grows : (metas : List MetaData) (k : ℕ) (meta : MetaData) → GrowsAt k metas (set metas k meta)
grows metas k meta = record { count = length-set metas k meta; others = λ j d other. get_or-set_other metas k j meta d other }

-- the group of its only writer, which is fresh
pub grown-own : (config : Config) (old new : List MetaData) (turner : Turner) (group : Group) (set : ℕ) → IsTurner config old turner → GrowsAt set old new
    → lacks_room config.publisher.id new turner.part.now ≡ false → is_fixed turner.part.now.layout ≡ false → group.index ≡ turner.group.index
    → (IsMadeFor config turner.part.now turner.group → IsMadeFor config turner.part.now group)
    → (MayGoOn (metas_for turner.part.now old) turner.part.now turner.left turner.group
    → MayGoOn (metas_for turner.part.now new) turner.part.now turner.left group)
    → IsTurner config new (record { part = turner.part; group = group; left = turner.left })
grown-own config old new turner group set is grows room dynamic same made goes_on = record {
  good = is.good;
  there = subst (λ i. i < length config.group) (sym same) is.there;
  part_is = λ d. subst (λ i. get_or config.group i d ≡ turner.part.now) (sym same) (is.part_is d);
  made = made is.made;
  metas_are = record {
    count = grows.count ∙ is.metas_are.count;
    fixed = λ fixed. absurd (true≢false (sym fixed ∙ dynamic));
    room = room;
  };
  goes_on = goes_on is.goes_on;
}

-- a group whose writers are all of other data sets
pub grown-others : (config : Config) (old new : List MetaData) (turner : Turner) (set : ℕ) → IsTurner config old turner → GrowsAt set old new
    → lacks_room config.publisher.id new turner.part.now ≡ false → All (λ writer. writer.dataset ≢ set) turner.part.now.writer
    → IsTurner config new turner
grown-others config old new turner set is grows room none =
    let part = turner.part.now in
    let writers = turner.group.writers.items in
    let same : (writer : ℕ) → writer < length part.writer → meta_at part new writer ≡ meta_at part old writer =
    λ writer within. grows.others (writer_at part writer).dataset no_meta (none writer no_writer within) in
    record {
      good = is.good;
      there = is.there;
      part_is = is.part_is;
      made = is.made;
      metas_are = record {
        count = grows.count ∙ is.metas_are.count;
        fixed = λ fixed writer within. same writer within ∙ is.metas_are.fixed fixed writer within;
        room = room;
      };
      goes_on = record {
        left = is.goes_on.left;
        holds = λ writer within. subst (λ m. HoldsAt (HoldsRowOf m) writers writer) (sym (same writer (omega (arith, within, is.made.writers))))
            (is.goes_on.holds writer within);
        lived = λ writer within. subst (λ m. HoldsAt (HasLived m (settings_of (writer_at part writer))) writers writer)
            (sym (same writer (omega (arith, within, is.made.writers)))) (is.goes_on.lived writer within);
      };
    }

-- of a list the first, and the others
pub all-first : {X : Type 0} (P : X → Type 0) (x : X) (xs : List X) → All P (x ∷ xs) → P x
all-first P x xs all = all 0 x (omega arith)

pub all-rest : {X : Type 0} (P : X → Type 0) (x : X) (xs : List X) → All P (x ∷ xs) → All P xs
all-rest P x xs all = λ k d within. all (suc k) d (omega (arith, within))
