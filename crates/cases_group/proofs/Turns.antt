-- A group that is kept may have its turns.
use Rattle.std.proofs.Common.{◌≡◌, ℕ, ◌+◌, ◌-◌, ◌<◌, ◌≤◌, Bool, List, length, get_or, refl, sym, ◌∙◌, subst, arith}
use Rattle.std.proofs.lemmas.List.{get_or_default}
use Rattle.std.specs.Prelude.{Option}
use Rattle.std.specs.List.{HoldsAt}
use Rattle.dataset_meta.specs.Metas.{MetaData}
use Rattle.message_guard.specs.Senders.{SenderState}
use Rattle.ps_config.specs.declared.parts.Config.{Config}
use Rattle.ps_config.specs.declared.parts.GroupPart.{GroupPart}
use Rattle.ps_config.specs.Sound.{IsGroup}
use Rattle.writer_group.specs.declared.group.Group.{Group}
use Rattle.writer_group.specs.declared.sampled.Sampled.{Sampled}
use Rattle.writer_group.specs.Payloads.{meta_at}
use Rattle.writer_group.specs.Standing.{AreMetas, IsGood, IsMadeFor, IsSenderFor, MayGoOn, MayTick, metas_for}
use Rattle.cases_group.specs.declared.turners.Turner.{Turner}
use Rattle.cases_group.specs.Kept.{AreRows, IsTurner}

-- no more turns than it may have
fewer : (metas : ℕ → MetaData) (part : GroupPart) (left turns : ℕ) (group : Group) → turns ≤ left → MayGoOn metas part left group
    → MayGoOn metas part turns group
fewer metas part left turns group few may = record {
  left = λ k d within. let all = may.left k d within in omega (arith, all, few);
  holds = may.holds;
  lived = may.lived;
}

-- the metas that a configuration has are metas for its groups
first-metas : (config : Config) (part : GroupPart) (metas : List MetaData) → IsGroup config part → metas ≡ config.dataset → AreMetas config part metas
first-metas config part metas sound are = subst (AreMetas config part) (sym are) (record { count = refl; fixed = λ _ _ _. refl; room = sound.room })

-- a new group
pub new-turner : (config : Config) (metas : List MetaData) (turner : Turner) (index : ℕ) → IsGood config → metas ≡ config.dataset → index < length config.group
    → turner.part.now ≡ get_or config.group index turner.part.now → turner.group.index ≡ index
    → HoldsAt (λ part. IsMadeFor config part turner.group) config.group index
    → HoldsAt (λ part. (others : ℕ → MetaData) → MayGoOn others part turner.left turner.group) config.group index → IsTurner config metas turner
new-turner config metas turner index good are within part_is index_is made goes_on =
    let part = turner.part.now in
    let sound : IsGroup config part = subst (IsGroup config) (sym part_is) (good.sound.groups index part within) in
    record {
      good = good;
      there = subst (λ i. i < length config.group) (sym index_is) within;
      part_is = λ d. subst (λ i. get_or config.group i d ≡ part) (sym index_is) (get_or_default config.group index d part within ∙ sym part_is);
      made = subst (λ one. IsMadeFor config one turner.group) (sym part_is) (made part);
      metas_are = first-metas config part metas sound are;
      goes_on = subst (λ one. MayGoOn (metas_for part metas) one turner.left turner.group) (sym part_is) (goes_on part (metas_for part metas));
    }

-- the conditions of a turn
pub may-tick : (config : Config) (metas : List MetaData) (turner : Turner) (rows : List Sampled) (on : List Bool) (sender : Option SenderState)
    → IsTurner config metas turner → AreRows metas rows → 1 ≤ turner.left → length on ≡ length turner.part.now.writer
    → IsSenderFor turner.part.now sender → HoldsAt (MayTick config metas rows on sender turner.group) config.group turner.group.index
may-tick config metas turner rows on sender is rows_are some on_are sender_is =
    λ d. subst (MayTick config metas rows on sender turner.group) (sym (is.part_is d)) (record {
      made = is.made;
      metas_are = is.metas_are;
      sampled = record { rows_are = rows_are; on_are = on_are };
      goes_on = fewer (metas_for turner.part.now metas) turner.part.now turner.left 1 turner.group some is.goes_on;
      sender_is = sender_is;
    })

-- behind a turn it may have one less
pub ticked : (config : Config) (metas : List MetaData) (old new : Turner) → IsTurner config metas old → 1 ≤ old.left → new.part ≡ old.part
    → new.left ≡ old.left - 1 → new.group.index ≡ old.group.index
    → HoldsAt (λ one. IsMadeFor config one new.group) config.group old.group.index
    → HoldsAt (λ one. (turns : ℕ) → MayGoOn (metas_for one metas) one (turns + 1) old.group → MayGoOn (metas_for one metas) one turns new.group)
    config.group old.group.index → IsTurner config metas new
ticked config metas old new is some part left same made goes =
    let one = old.part.now in
    let goes_one : (turns : ℕ) → MayGoOn (metas_for one metas) one (turns + 1) old.group → MayGoOn (metas_for one metas) one turns new.group =
    subst (λ v. (turns : ℕ) → MayGoOn (metas_for v metas) v (turns + 1) old.group → MayGoOn (metas_for v metas) v turns new.group) (is.part_is one) (goes one) in
    let before : old.left ≡ (old.left - 1) + 1 = omega (arith, some) in
    let after = goes_one (old.left - 1) (subst (λ n. MayGoOn (metas_for one metas) one n old.group) before is.goes_on) in
    subst (λ p. IsTurner config metas (record { part = p; group = new.group; left = new.left })) (sym part)
    (record {
      good = is.good;
      there = subst (λ i. i < length config.group) (sym same) is.there;
      part_is = λ d. subst (λ i. get_or config.group i d ≡ one) (sym same) (is.part_is d);
      made = subst (λ v. IsMadeFor config v new.group) (is.part_is one) (made one);
      metas_are = is.metas_are;
      goes_on = subst (λ n. MayGoOn (metas_for one metas) one n new.group) (sym left) after;
    })

-- a refresh changes none of it
pub refreshed : (config : Config) (metas : List MetaData) (old new : Turner) → IsTurner config metas old → new.part ≡ old.part → new.left ≡ old.left
    → new.group.index ≡ old.group.index → (IsMadeFor config old.part.now old.group → IsMadeFor config old.part.now new.group)
    → (MayGoOn (metas_for old.part.now metas) old.part.now old.left old.group → MayGoOn (metas_for old.part.now metas) old.part.now old.left new.group)
    → IsTurner config metas new
refreshed config metas old new is part left same made goes_on =
    subst (λ p. IsTurner config metas (record { part = p; group = new.group; left = new.left })) (sym part)
    (record {
      good = is.good;
      there = subst (λ i. i < length config.group) (sym same) is.there;
      part_is = λ d. subst (λ i. get_or config.group i d ≡ old.part.now) (sym same) (is.part_is d);
      made = made is.made;
      metas_are = is.metas_are;
      goes_on = subst (λ n. MayGoOn (metas_for old.part.now metas) old.part.now n new.group) (sym left) (goes_on is.goes_on);
    })
