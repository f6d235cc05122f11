-- Read groups that change hold as before.
use Rattle.std.proofs.Common.{◌≡◌, ap, ◌∙◌, arith, ℕ, ◌<◌, length, get_or}
use Rattle.std.specs.Prelude.{Vec}
use Rattle.std.specs.declared.alloc.Global.{Global}
use Rattle.ps_config.specs.declared.parts.Config.{Config}
use Rattle.reader_group.specs.declared.group.ReaderGroup.{ReaderGroup}
use Rattle.reader_group.specs.Groups.{IsMadeOf, index_of}
use Rattle.session_parts.specs.declared.tally.Tally.{Tally}
use Rattle.session_parts.specs.declared.subscriber.Subscriber.{Subscriber}
use Rattle.session_parts.specs.Holding.{HoldSubscriber, MayReceive}
use Rattle.session_parts.proofs.Each.{EachTo}

-- whichever configuration the read group was made of, it still is, with its index
pub record Stays (old new : ReaderGroup) : Type 0 where
  pub index : index_of new ≡ index_of old
  pub made : (config : Config) → IsMadeOf config old → IsMadeOf config new

pub still-hold : (R : ℕ → ReaderGroup → ReaderGroup → Type 0) → ((r : ℕ) (one other : ReaderGroup) → R r one other → Stays one other)
    → (old new : Subscriber) → EachTo R (length old.groups.items) old.groups.items new.groups.items → new.tallies ≡ old.tallies
    → (config : Config) → HoldSubscriber config old → HoldSubscriber config new
still-hold R stays old new each same config holds = record {
  groups = record {
    count = each.count ∙ holds.groups.count;
    each = λ r low d. one r low d;
  };
  tallies = ap (λ (v : Vec Tally Global). v.len) same ∙ holds.tallies;
}
  where
    one : (r : ℕ) → r < length config.readgroup → (d : ReaderGroup) → MayReceive config r (get_or new.groups.items r d)
    one r low d =
        let there : r < length old.groups.items = omega (arith, low, holds.groups.count) in
        let does = stays r (get_or old.groups.items r d) (get_or new.groups.items r d) (each.done r there there d) in
        record {
          index = does.index ∙ (holds.groups.each r low d).index;
          made = does.made config (holds.groups.each r low d).made;
        }
