-- A turn that `Group::tick` had is one of those that the laws of groups speak of.
use Rattle.std.proofs.Common.{◌≡◌, sym, subst, arith, ◌≤◌, length, List, ℕ, Option, Some, None}
use Rattle.std.specs.Prelude.{IfSome}
use Rattle.message_guard.specs.Senders.{SenderState}
use Rattle.ps_config.specs.declared.parts.Config.{Config}
use Rattle.ps_config.specs.declared.parts.GroupPart.{GroupPart}
use Rattle.writer_group.specs.declared.datagrams.Datagrams.{Datagrams}
use Rattle.writer_group.specs.Limits.{most_datagrams}
use Rattle.writer_group.specs.Payloads.{payloads_of}
use Rattle.writer_group.specs.Standing.{IsSenderFor, datagrams_in}
use Rattle.writer_group.specs.Turns.{GroupDeed, TurnInput, frames_in, turn_datagrams}
use Rattle.writer_group.proofs.SomeDatagrams.{turn-count}
use Rattle.reader_group.specs.Settings.{keygroup_at}
use Rattle.group_laws.specs.Matching.{IsSenderOf, MaySend}
use Rattle.group_laws.specs.Ticking.{AreWriterMetas, IsSampledAt, IsTurnOfFixed, IsTurnOfGroup, Tick, WasGroupTick, WasTick, tick_input}

may-send : (config : Config) (part : GroupPart) (sender : Option SenderState) (count : ℕ) → IsSenderFor part sender
    → IfSome sender (λ s. IfSome part.keygroup (λ k. IsSenderOf (keygroup_at config k) s)) → count ≤ most_datagrams
    → MaySend config part count sender
may-send config part None count is fits few = sym is.there
may-send config part (Some s) count is fits few = (sym is.there, let left = is.unspent in omega (arith, left, few), fits)

counted : (config : Config) (part : GroupPart) (past : List GroupDeed) (input : TurnInput) (out : Datagrams)
    → datagrams_in out ≡ turn_datagrams config part past input → length (datagrams_in out) ≤ most_datagrams
    → length (payloads_of config part (frames_in part past input)) ≤ most_datagrams
counted config part past input out is few =
    subst (λ n. n ≤ most_datagrams) (turn-count config part past input)
    (subst (λ (l : List (List ℕ)). length l ≤ most_datagrams) is few)

pub group-turn : (t : Tick) → WasGroupTick t → IsTurnOfGroup t
group-turn t was =
    let asked = was.tick.asked in
    record {
      sound = was.tick.good.sound;
      group_is = was.part_is;
      on = let same = asked.sampled.on_are in omega (arith, same);
      sender = may-send t.config t.part t.sender (length (payloads_of t.config t.part (frames_in t.part t.past (tick_input t)))) asked.sender_is was.keyed
          (counted t.config t.part t.past (tick_input t) t.out was.tick.ensured.datagrams was.few);
      written = was.tick.ensured.written;
    }

pub is-sampled : (t : Tick) (writer : ℕ) → WasTick t → IsSampledAt t writer
is-sampled t writer was = λ is. record { meta = is; frame = was.ensured.answers writer }

pub fixed-turn : (t : Tick) → WasTick t → AreWriterMetas t → IsTurnOfFixed t
fixed-turn t was are = record {
  fixed = was.good.fixed;
  metas = was.asked.metas_are;
  sampled = λ writer within. is-sampled t writer was (are writer within);
}
