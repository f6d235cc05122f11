-- The conditions of a run's turns.
use Rattle.std.proofs.Common.{◌≡◌, ℕ, ◌+◌, ◌<◌, ◌≤◌, ◌↔◌, List, Bool, true, false, get_or, arith, refl, sym, subst, ◌∙◌, ap, Option, Some}
use Rattle.std.specs.Prelude.{IfSome, is_some}
use Rattle.std.specs.Bool.{IsTrue}
use Rattle.std.specs.List.{HoldsAt}
use Rattle.std.proofs.Math.Nat.{lt_of_not-le}
use Rattle.dataset_meta.specs.Metas.{MetaData}
use Rattle.message_guard.specs.Senders.{SenderState, IsSender, numbers_left}
use Rattle.ps_config.specs.declared.parts.Config.{Config}
use Rattle.ps_config.specs.declared.parts.GroupPart.{GroupPart}
use Rattle.ps_config.specs.Headers.{is_secured}
use Rattle.ps_config.specs.Sound.{IsGroup}
use Rattle.writer_group.specs.declared.datagrams.Datagrams.{Datagrams}
use Rattle.writer_group.specs.declared.group.Group.{Group}
use Rattle.writer_group.specs.declared.sampled.Sampled.{Sampled}
use Rattle.writer_group.specs.Standing.{AreMetas, IsMadeFor, IsReserved, IsSenderFor, MayGoOn, MayTick, index_of, metas_for}
use Rattle.bench_groups.specs.declared.writing.Run.{Run}
use Rattle.bench_groups.specs.Running.{AreRows, FitsSender, MayTurn}

may_send : (config : Config) (run : Run) (sender : Option SenderState) (part : GroupPart) → is_some run.sender ≡ is_secured part.security → IfSome run.sender IsSender
    → sender ≡ run.sender → IfSome sender (λ s. 1024 ≤ numbers_left s) → IsSenderFor part sender
may_send config run sender part there is own unspent = record {
  there = ap (λ (s : Option SenderState). is_some s) own ∙ there;
  sender_is = subst (λ (s : Option SenderState). IfSome s IsSender) (sym own) is;
  unspent = unspent;
}

may_tick_first : (config : Config) (run : Run) (rows : List Sampled) (sender : Option SenderState) → MayTurn config 1 run → AreRows config.dataset rows
    → sender ≡ run.sender → IfSome sender (λ s. 1024 ≤ numbers_left s)
    → HoldsAt (MayTick config config.dataset rows run.on.items sender run.group) config.group 0
may_tick_first config run rows sender may are own unspent d =
    let part : GroupPart = get_or config.group 0 d in
    let sound : IsGroup config part = may.good.sound.groups 0 d may.there in
    let known : AreMetas config part config.dataset = record { count = refl; fixed = λ fixed writer within. refl; room = sound.room } in
    record {
      made = may.made d;
      metas_are = known;
      sampled = record { rows_are = are; on_are = may.on_are d };
      goes_on = may.goes_on d;
      sender_is = may_send config run sender part (may.sender_fits.there d) may.sender_fits.sender_is own unspent;
    }

-- the sender is the run's, and isn't spent
pub may_tick : (config : Config) (run : Run) (metas : List MetaData) (rows : List Sampled) (sender : Option SenderState) → MayTurn config 1 run → metas ≡ config.dataset
    → AreRows config.dataset rows → sender ≡ run.sender → IfSome sender (λ s. 1024 ≤ numbers_left s)
    → HoldsAt (MayTick config metas rows run.on.items sender run.group) config.group (index_of run.group)
may_tick config run metas rows sender may same are own unspent =
    subst (λ (l : List MetaData). HoldsAt (MayTick config l rows run.on.items sender run.group) config.group (index_of run.group)) (sym same)
    (subst (λ (index : ℕ). HoldsAt (MayTick config config.dataset rows run.on.items sender run.group) config.group index) (sym may.first)
    (may_tick_first config run rows sender may are own unspent))

-- what a turn leaves the group as
pub record HasGoneOn (config : Config) (metas : List MetaData) (old new : Group) : Type 0 where
  pub goes_on : HoldsAt (λ part. (turns : ℕ) → MayGoOn (metas_for part metas) part (turns + 1) old → MayGoOn (metas_for part metas) part turns new) config.group (index_of old)
  pub made : HoldsAt (λ part. IsMadeFor config part new) config.group (index_of old)
  pub index : index_of new ≡ index_of old

went_first : (config : Config) (old new : Group) → index_of old ≡ 0 → HasGoneOn config config.dataset old new → (turns : ℕ)
    → HoldsAt (λ part. MayGoOn (metas_for part config.dataset) part (turns + 1) old) config.group 0 → HoldsAt (λ part. MayGoOn (metas_for part config.dataset) part turns new) config.group 0
went_first config old new first gone turns may part =
    subst (λ (index : ℕ). HoldsAt (λ part. (turns : ℕ) → MayGoOn (metas_for part config.dataset) part (turns + 1) old → MayGoOn (metas_for part config.dataset) part turns new) config.group index)
    first gone.goes_on part turns (may part)

-- the rest of the run stays, but for its datagrams
pub next_turn : (config : Config) (metas : List MetaData) (old : Run) (group : Group) (sender : Option SenderState) (out : Datagrams) → metas ≡ config.dataset
    → HasGoneOn config metas old.group group → FitsSender config sender → IsReserved out → (turns : ℕ) → MayTurn config (turns + 1) old
    → MayTurn config turns (record old { group = group; sender = sender; out = out })
next_turn config metas old group sender out same gone fits reserved turns may =
    let went : HasGoneOn config config.dataset old.group group = subst (λ (l : List MetaData). HasGoneOn config l old.group group) same gone in
    record {
      good = may.good;
      there = may.there;
      first = went.index ∙ may.first;
      made = subst (λ (index : ℕ). HoldsAt (λ part. IsMadeFor config part group) config.group index) may.first went.made;
      goes_on = went_first config old.group group may.first went turns may.goes_on;
      sender_fits = fits;
      on_are = may.on_are;
      even_are = may.even_are;
      odd_are = may.odd_are;
      reserved = reserved;
    }

-- a run with more turns left may have fewer
pub fewer : (config : Config) (run : Run) (less more : ℕ) → less ≤ more → MayTurn config more run → MayTurn config less run
fewer config run less more below may = record {
  good = may.good;
  there = may.there;
  first = may.first;
  made = may.made;
  goes_on = λ d. record {
    left = λ index writer within. omega (arith, below, (may.goes_on d).left index writer within);
    holds = (may.goes_on d).holds;
    lived = (may.goes_on d).lived;
  };
  sender_fits = may.sender_fits;
  on_are = may.on_are;
  even_are = may.even_are;
  odd_are = may.odd_are;
  reserved = may.reserved;
}

-- the sender that was lent is left as one
pub fits_again : (config : Config) (old : Option SenderState) (before after : SenderState) → FitsSender config old → old ≡ Some before → IsSender after → FitsSender config (Some after)
fits_again config old before after fits was is = record {
  there = λ d. sym (ap (λ (s : Option SenderState). is_some s) was) ∙ fits.there d;
  sender_is = is;
}

-- a sender that doesn't say that it is spent
pub unspent_is : (spent : Bool) (sender : SenderState) → (IsTrue spent ↔ (numbers_left sender < 1024)) → spent ≡ false → 1024 ≤ numbers_left sender
unspent_is true sender says told = absurd (let wrong : true ≡ false = told in cc)
unspent_is false sender says told =
    let more : 1023 < numbers_left sender = lt_of_not-le (λ (few : numbers_left sender ≤ 1023). let wrong : false ≡ true = says.1 (omega (arith, few)) in cc) in
    omega (arith, more)
