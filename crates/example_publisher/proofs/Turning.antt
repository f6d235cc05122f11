-- The conditions of the device's turn, and what it leaves.
use Rattle.std.proofs.Common.{◌≡◌, ℕ, zero, suc, ◌+◌, ◌-◌, ◌<◌, ◌≤◌, List, [], ◌∷◌, Bool, true, false, length, get_or, refl, sym, subst, ap, ◌∙◌, Some, arith}
use Rattle.std.specs.Option.{option_map}
use Rattle.std.specs.List.{AllZip, HoldsAt}
use Rattle.std.specs.Prelude.{◌↔◌, IsTrue}
use Rattle.std.proofs.lemmas.List.{get_or_default}
use Rattle.std.proofs.lemmas.List.Elements.{All-get_or}
use Rattle.dataset_meta.specs.Metas.{MetaData}
use Rattle.message_guard.specs.declared.mode.Mode.{Mode}
use Rattle.message_guard.specs.Senders.{SenderState, IsSender, numbers_left}
use Rattle.row_words.specs.Belonging.{Belongs}
use Rattle.ps_config.specs.declared.parts.Config.{Config}
use Rattle.ps_config.specs.declared.parts.GroupPart.{GroupPart}
use Rattle.ps_config.specs.Headers.{mode_of}
use Rattle.ps_config.specs.Sound.{IsGroup}
use Rattle.writer_group.specs.declared.group.Group.{Group}
use Rattle.writer_group.specs.declared.sampled.Sampled.{Sampled}
use Rattle.writer_group.specs.Sealing.{advanced_by}
use Rattle.writer_group.specs.Standing.{GoesOnAt, IsGood, IsMadeAt, IsMadeFor, MayGoOn, MayTick, index_of, metas_for}
use Rattle.example_publisher.specs.Devices.{IsGroupOf}

-- one turn of the many that are left
one-left : (metas : ℕ → MetaData) (part : GroupPart) (left : ℕ) (group : Group) → 0 < left → MayGoOn metas part left group → MayGoOn metas part 1 group
one-left metas part left group some may = record {
  left = λ k d low. let h = may.left k d low in omega (arith, h, some);
  holds = may.holds;
  lived = may.lived;
}

-- a sender that isn't spent has the numbers of a turn
pub unspent-has : (n : ℕ) (spent : Bool) → (IsTrue spent ↔ (n < 1024)) → spent ≡ false → 1024 ≤ n
unspent-has n spent exact is = omega (arith, few)
  where
    few : n < 1024 → ⊥
    few low = let h : spent ≡ true = exact.1 low in let e : true ≡ false = sym h ∙ is in cc

-- the row of the only data set, by its meta
pub row-of-set : (metas : List MetaData) (meta : MetaData) (sampled : Sampled) → length metas ≡ 1 → meta ≡ get_or metas 0 meta → Belongs meta sampled.row.words
    → HoldsAt (λ m. Belongs m sampled.row.words) metas 0
row-of-set metas meta sampled one is belongs =
    λ d. subst (λ (m : MetaData). Belongs m sampled.row.words) (is ∙ get_or_default metas 0 meta d (omega (arith, one))) belongs

-- the row of the only data set
one-row : (metas : List MetaData) (sampled : Sampled) → length metas ≡ 1 → HoldsAt (λ meta. Belongs meta sampled.row.words) metas 0
    → AllZip (λ meta sampled. Belongs meta sampled.row.words) metas (sampled ∷ [])
one-row [] sampled one belongs = absurd (omega arith)
one-row (meta ∷ []) sampled one belongs = (belongs meta, tt)
one-row (meta ∷ other ∷ metas) sampled one belongs = absurd (omega arith)

pub may-turn : (config : Config) (left : ℕ) (on : List Bool) (group : Group) (sampled : Sampled) (sender : SenderState) → IsGood config → index_of group ≡ 0
    → 0 < length config.group → length config.dataset ≡ 1 → HoldsAt (λ meta. Belongs meta sampled.row.words) config.dataset 0
    → HoldsAt (IsGroupOf config left (length on) group) config.group 0 → 0 < left → IsSender sender → 1024 ≤ numbers_left sender
    → HoldsAt (MayTick config config.dataset (sampled ∷ []) on (Some sender) group) config.group (index_of group)
may-turn config left on group sampled sender good first there one belongs is some sender_is unspent =
    subst (HoldsAt (MayTick config config.dataset (sampled ∷ []) on (Some sender) group) config.group) (sym first)
    (λ d.
    let part : GroupPart = get_or config.group 0 d in
    let own : IsGroupOf config left (length on) group part = is d in
    let sound : IsGroup config part = All-get_or (IsGroup config) config.group 0 d there good.sound.groups in
    record {
      made = own.made;
      metas_are = record { count = refl; fixed = λ fixed writer within. refl; room = sound.room };
      sampled = record { rows_are = one-row config.dataset sampled one belongs; on_are = own.on };
      goes_on = one-left (metas_for part config.dataset) part left group some own.goes_on;
      sender_is = record { there = sym own.secured; sender_is = sender_is; unspent = unspent };
    })

pub turned-group : (config : Config) (left switches : ℕ) (old new : Group) → index_of old ≡ 0 → 0 < left → IsMadeAt config (index_of old) new
    → GoesOnAt config config.dataset old new → HoldsAt (IsGroupOf config left switches old) config.group 0
    → HoldsAt (IsGroupOf config (left - 1) switches new) config.group 0
turned-group config left switches old new first some made goes is =
    λ d.
    let part : GroupPart = get_or config.group 0 d in
    let own : IsGroupOf config left switches old part = is d in
    let on : (turns : ℕ) → MayGoOn (metas_for part config.dataset) part (turns + 1) old → MayGoOn (metas_for part config.dataset) part turns new
    = subst (HoldsAt (λ one. (turns : ℕ) → MayGoOn (metas_for one config.dataset) one (turns + 1) old → MayGoOn (metas_for one config.dataset) one turns new) config.group) first goes d in
    let more : left ≡ left - 1 + 1 = omega (arith, some) in
    record {
      made = subst (HoldsAt (λ one. IsMadeFor config one new) config.group) first made d;
      goes_on = on (left - 1) (subst (λ (n : ℕ). MayGoOn (metas_for part config.dataset) part n old) more own.goes_on);
      secured = own.secured;
      on = own.on;
    }

-- each datagram takes one number
used-advanced : (mode : Mode) (s : SenderState) (count : ℕ) → (advanced_by mode s count).used ≡ s.used + count
used-advanced mode s zero = omega arith
used-advanced mode s (suc count) = let h = used-advanced mode s count in omega (arith, h)

pub used-after : (group : List GroupPart) (index count : ℕ) (before after : SenderState) → index < length group
    → HoldsAt (λ part. Some after ≡ option_map (λ s. advanced_by (mode_of part.security) s count) (Some before)) group index → after.used ≡ before.used + count
used-after [] index count before after low is = absurd (omega arith)
used-after (part ∷ parts) index count before after low is =
    let mode = mode_of (get_or (part ∷ parts) index part).security in
    let same : Some after ≡ Some (advanced_by mode before count) = is part in
    let both : after ≡ advanced_by mode before count = cc in
    ap (λ (s : SenderState). s.used) both ∙ used-advanced mode before count
