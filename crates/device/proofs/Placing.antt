-- Groups at their places: what calls leave of it, and what one that begins anew leaves of the others.
use Rattle.std.proofs.Common.{◌≡◌, ◌≢◌, ℕ, zero, suc, ◌<◌, ◌⊎◌, inl, inr, List, [], ◌∷◌, length, get_or, set, refl, sym, ap, subst, arith, ◌∙◌}
use Rattle.std.specs.Prelude.{All}
use Rattle.std.specs.List.{AllZip, range_with_len}
use Rattle.std.proofs.lemmas.Bool.{cases_eq}
use Rattle.std.proofs.lemmas.List.{get_or-set_other, get_or-set_same, length-set}
use Rattle.std.proofs.lemmas.List.FromFn.{get_or-range_with_len, length-range_with_len}
use Rattle.ps_config.specs.Beginning.{changed_at, config_beginning, group_beginning}
use Rattle.ps_config.specs.declared.parts.Config.{Config}
use Rattle.ps_config.specs.declared.parts.GroupPart.{GroupPart}
use Rattle.message_guard.specs.Senders.{SenderState}
use Rattle.writer_group.specs.Standing.{IsMadeFor, KeepsTo, MayGoOn, index_of, metas_for}
use Rattle.writer_group.specs.declared.group.Group.{Group}
use Rattle.device.specs.Coming.{IsRefreshedFor}
use Rattle.device.specs.Resuming.{IsRefreshedWith}
use Rattle.device.specs.Sides.{ArePlaced, IsOpeningSide, IsSide}
use Rattle.device.specs.declared.side.Side.{Side}

-- ---- places that stay

-- each group has the index that it had
abbrev KeepIndexes : List Side → List Side → Type 0
KeepIndexes old new = AllZip (λ (was is : Side). is.index ≡ was.index) old new

keep-count : (old new : List Side) → KeepIndexes old new → length new ≡ length old
keep-count [] [] keep = refl
keep-count [] (y ∷ new) keep = absurd keep
keep-count (x ∷ old) [] keep = absurd keep
keep-count (x ∷ old) (y ∷ new) keep = ap suc (keep-count old new keep.1)

keep-at : (old new : List Side) (k : ℕ) (d : Side) → KeepIndexes old new → (get_or new k d).index ≡ (get_or old k d).index
keep-at [] [] k d keep = refl
keep-at [] (y ∷ new) k d keep = absurd keep
keep-at (x ∷ old) [] k d keep = absurd keep
keep-at (x ∷ old) (y ∷ new) zero d keep = keep.0
keep-at (x ∷ old) (y ∷ new) (suc k) d keep = keep-at old new k d keep.1

placed-kept : (old new : List Side) → KeepIndexes old new → ArePlaced old → ArePlaced new
placed-kept old new keep placed = λ place d low. keep-at old new place d keep ∙ placed place d (omega (arith, low, keep-count old new keep))

keep-all : (P : Side → Side → Type 0) → ((was is : Side) → P was is → is.index ≡ was.index) → (old new : List Side) → AllZip P old new → KeepIndexes old new
keep-all P keeps [] [] all = tt
keep-all P keeps [] (y ∷ new) all = absurd all
keep-all P keeps (x ∷ old) [] all = absurd all
keep-all P keeps (x ∷ old) (y ∷ new) all = (keeps x y all.0, keep-all P keeps old new all.1)

refreshed-index : (config : Config) (now : ℕ) (senders : List SenderState) (old new : Side) → IsRefreshedFor config now senders old new → new.index ≡ old.index
refreshed-index config now senders old new is = by_case (cases_eq new.index old.index)
  where
    by_case : (new.index ≡ old.index) ⊎ (new.index ≡ old.index → ⊥) → new.index ≡ old.index
    by_case (inl same) = same
    by_case (inr differs) = absurd (differs (ap (λ (s : Side). s.index) (is.stays (λ sender sender_is new_token. differs (is.refreshed sender sender_is new_token).index))))

with-index : (config : Config) (keygroup : ℕ) (changed : Type 0) (old new : Side) → IsRefreshedWith config keygroup changed old new → new.index ≡ old.index
with-index config keygroup changed old new is = by_case (cases_eq new.index old.index)
  where
    by_case : (new.index ≡ old.index) ⊎ (new.index ≡ old.index → ⊥) → new.index ≡ old.index
    by_case (inl same) = same
    by_case (inr differs) = absurd (differs (ap (λ (s : Side). s.index) (is.stays (λ secured change. differs (is.refreshed secured change).index))))

pub placed-refreshed : (config : Config) (now : ℕ) (senders : List SenderState) (old new : List Side) → AllZip (IsRefreshedFor config now senders) old new → ArePlaced old → ArePlaced new
placed-refreshed config now senders old new all placed =
    placed-kept old new (keep-all (IsRefreshedFor config now senders) (refreshed-index config now senders) old new all) placed

pub placed-with : (config : Config) (keygroup : ℕ) (changed : Type 0) (old new : List Side) → AllZip (IsRefreshedWith config keygroup changed) old new → ArePlaced old → ArePlaced new
placed-with config keygroup changed old new all placed =
    placed-kept old new (keep-all (IsRefreshedWith config keygroup changed) (with-index config keygroup changed) old new all) placed

-- a group that is changed at its place
pub placed-set : (sides : List Side) (i : ℕ) (was is : Side) → i < length sides → was ≡ get_or sides i was → is.index ≡ was.index → ArePlaced sides → ArePlaced (set sides i is)
placed-set sides i was is low was_is same placed = λ place d within. by_place place d within (cases_eq place i)
  where
    by_place : (place : ℕ) (d : Side) → place < length (set sides i is) → (place ≡ i) ⊎ (place ≡ i → ⊥) → (get_or (set sides i is) place d).index ≡ place
    by_place place d within (inl here) =
        ap (λ (k : ℕ). (get_or (set sides i is) k d).index) here ∙ ap (λ (s : Side). s.index) (get_or-set_same sides i is d low) ∙ same
        ∙ ap (λ (s : Side). s.index) was_is ∙ placed i was low ∙ sym here
    by_place place d within (inr differs) =
        ap (λ (s : Side). s.index) (get_or-set_other sides i place is d differs) ∙ placed place d (omega (arith, within, length-set sides i is))

opening-at : (config : Config) (indexes : List ℕ) (sides : List Side) (place : ℕ) (d : Side) → place < length sides → AllZip (IsOpeningSide config) indexes sides
    → (get_or sides place d).index ≡ get_or indexes place 0
opening-at config [] [] place d low all = absurd (omega (arith, low))
opening-at config [] (y ∷ sides) place d low all = absurd all
opening-at config (x ∷ indexes) [] place d low all = absurd all
opening-at config (x ∷ indexes) (y ∷ sides) zero d low all = all.0.index_is
opening-at config (x ∷ indexes) (y ∷ sides) (suc place) d low all = opening-at config indexes sides place d (omega (arith, low)) all.1

opening-count : (config : Config) (indexes : List ℕ) (sides : List Side) → AllZip (IsOpeningSide config) indexes sides → length sides ≡ length indexes
opening-count config [] [] all = refl
opening-count config [] (y ∷ sides) all = absurd all
opening-count config (x ∷ indexes) [] all = absurd all
opening-count config (x ∷ indexes) (y ∷ sides) all = ap suc (opening-count config indexes sides all.1)

pub placed-opening : (config : Config) (sides : List Side) → AllZip (IsOpeningSide config) (range_with_len 0 (length config.group)) sides → ArePlaced sides
placed-opening config sides all = λ place d low.
    let many = length-range_with_len 0 (length config.group) in
    let within : place < length config.group = omega (arith, low, many, opening-count config (range_with_len 0 (length config.group)) sides all) in
    opening-at config (range_with_len 0 (length config.group)) sides place d low all ∙ get_or-range_with_len 0 (length config.group) place 0 within ∙ omega arith

-- ---- a configuration of which a writer begins at another number

changed-count : {X : Type 0} (place : ℕ) (change : X → X) (xs : List X) → length (changed_at place change xs) ≡ length xs
changed-count place change [] = refl
changed-count zero change (x ∷ xs) = refl
changed-count (suc place) change (x ∷ xs) = ap suc (changed-count place change xs)

changed-other : {X : Type 0} (place k : ℕ) (change : X → X) (xs : List X) (d : X) → k ≢ place → get_or (changed_at place change xs) k d ≡ get_or xs k d
changed-other place k change [] d differs = refl
changed-other zero zero change (x ∷ xs) d differs = absurd (differs refl)
changed-other zero (suc k) change (x ∷ xs) d differs = refl
changed-other (suc place) zero change (x ∷ xs) d differs = refl
changed-other (suc place) (suc k) change (x ∷ xs) d differs = changed-other place k change xs d (λ same. differs (ap suc same))

made-else : (group writer number : ℕ) (config : Config) (part : GroupPart) (of : Group) → IsMadeFor config part of → IsMadeFor (config_beginning group writer number config) part of
made-else group writer number config part of made = record {
  interval = made.interval;
  start = made.start;
  writers = made.writers;
  slots = made.slots;
  rooms = made.rooms;
  leads = made.leads;
}

keeps-else : (group writer number : ℕ) (config : Config) (of : Group) → index_of of ≢ group → KeepsTo config of → KeepsTo (config_beginning group writer number config) of
keeps-else group writer number config of differs keeps =
    let there : (d : GroupPart) → get_or config.group (index_of of) d ≡ get_or (changed_at group (group_beginning writer number) config.group) (index_of of) d =
    λ d. sym (changed-other group (index_of of) (group_beginning writer number) config.group d differs) in
    record {
      index = omega (arith, keeps.index, changed-count group (group_beginning writer number) config.group);
      made = λ d. subst (λ (part : GroupPart). IsMadeFor (config_beginning group writer number config) part of) (there d)
          (made-else group writer number config (get_or config.group (index_of of) d) of (keeps.made d));
      goes_on = λ d. subst (λ (part : GroupPart). MayGoOn (metas_for part config.dataset) part 0 of) (there d) (keeps.goes_on d);
    }

-- the group at this place begins anew, and the others keep to the configuration
pub sides-begun : (writer number : ℕ) (config : Config) (sides : List Side) (i : ℕ) (side : Side) → i < length sides → ArePlaced sides → All (IsSide config) sides
    → IsSide (config_beginning i writer number config) side → All (IsSide (config_beginning i writer number config)) (set sides i side)
sides-begun writer number config sides i side low placed all own = λ k d within. by_place k d within (cases_eq k i)
  where
    P : Side → Type 0
    P s = IsSide (config_beginning i writer number config) s

    by_place : (k : ℕ) (d : Side) → k < length (set sides i side) → (k ≡ i) ⊎ (k ≡ i → ⊥) → P (get_or (set sides i side) k d)
    by_place k d within (inl here) = subst P (sym (ap (λ (n : ℕ). get_or (set sides i side) n d) here ∙ get_or-set_same sides i side d low)) own
    by_place k d within (inr differs) =
        let there : k < length sides = omega (arith, within, length-set sides i side) in
        let is = all k d there in
        subst P (sym (get_or-set_other sides i k side d differs))
        (record {
          index = is.index;
          keeps_to = keeps-else i writer number config (get_or sides k d).group (λ same. differs (sym (placed k d there) ∙ sym is.index ∙ same)) is.keeps_to;
        })
