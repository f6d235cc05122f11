-- What is told of a reader.
use Rattle.std.proofs.Common.{◌≡◌, sym, subst, ℕ, ◌<◌, List, length, get_or}
use Rattle.dataset_reader.specs.declared.reader.Reader.{Reader as DataSetReader}
use Rattle.dataset_reader.specs.Reader.{IsReaderOf}
use Rattle.ps_config.specs.declared.parts.Config.{Config}
use Rattle.reader_group.specs.declared.group.ReaderGroup.{ReaderGroup}
use Rattle.reader_group.specs.Groups.{IsKeptAt, IsMadeAt, IsPassedAt, Stands as ReadingStands}
use Rattle.reader_group.specs.Members.{seat_at}
use Rattle.reader_group.specs.Plain.{plain}
use Rattle.reader_group.specs.Settings.{setting_of}
use Rattle.session_model.specs.Steps.{Plan, Step}
use Rattle.session_model.specs.Events.{events}
use Rattle.session_model.specs.Readings.{Reading, setting_in}
use Rattle.session_parts.specs.declared.subscriber.Subscriber.{Subscriber}
use Rattle.session_parts.specs.Holding.{HoldSubscriber, MayReceive}
use Rattle.session_parts.specs.Showing.{IsReaderAt, IsReaderIn}
use Rattle.session_parts.specs.Standing.{HaveRead, HaveReadings}

-- whatever it is asked for, while the session runs and when it ends
pub reader-at : (config : Config) (p : Plan) (steps : List Step) (subscriber : Subscriber) (r i : ℕ) (group : ReaderGroup) (reader : DataSetReader)
    → HoldSubscriber config subscriber → p.config ≡ config → HaveRead p.config steps subscriber.groups.items → r < length config.readgroup
    → group ≡ get_or subscriber.groups.items r group → IsKeptAt group i reader → IsPassedAt group i reader → IsMadeAt group i reader → IsReaderAt p steps (r, i) reader
reader-at config p steps subscriber r i group reader holds plan readings low at is_kept is_passed is_made = record {
  made = subst (λ (c : Config). IsReaderOf (seat_at (setting_of c r).seats i).meta reader) (sym plan)
      (subst (λ (q : ℕ). IsReaderOf (seat_at (setting_of config q).seats i).meta reader) own.index (is_made config own.made));
  kept = is_kept (setting_of p.config r) (plain (setting_of p.config r) (events p.config r steps)) stands;
  passed = is_passed (setting_of p.config r) (plain (setting_of p.config r) (events p.config r steps)) stands;
}
  where
    stands : ReadingStands (setting_of p.config r) (plain (setting_of p.config r) (events p.config r steps)) group
    stands =
        subst (ReadingStands (setting_of p.config r) (plain (setting_of p.config r) (events p.config r steps))) (sym at)
        (readings r (subst (λ (c : Config). r < length c.readgroup) (sym plan) low) group)

    own : MayReceive config r group
    own = subst (MayReceive config r) (sym at) (holds.groups.each r low group)

-- in a life
pub reader-in : (config : Config) (p : Plan) (readings : ℕ → Reading) (subscriber : Subscriber) (r i : ℕ) (group : ReaderGroup) (reader : DataSetReader)
    → HoldSubscriber config subscriber → p.config ≡ config → HaveReadings p.config readings subscriber.groups.items → r < length config.readgroup
    → group ≡ get_or subscriber.groups.items r group → IsKeptAt group i reader → IsPassedAt group i reader → IsMadeAt group i reader → IsReaderIn p readings (r, i) reader
reader-in config p readings subscriber r i group reader holds plan stand low at is_kept is_passed is_made = record {
  made = subst (λ (c : Config). IsReaderOf (seat_at (setting_of c r).seats i).meta reader) (sym plan)
      (subst (λ (q : ℕ). IsReaderOf (seat_at (setting_of config q).seats i).meta reader) own.index (is_made config own.made));
  kept = is_kept (setting_in p.config r (readings r)) (readings r).value stands;
  passed = is_passed (setting_in p.config r (readings r)) (readings r).value stands;
}
  where
    stands : ReadingStands (setting_in p.config r (readings r)) (readings r).value group
    stands =
        subst (ReadingStands (setting_in p.config r (readings r)) (readings r).value) (sym at)
        (stand r (subst (λ (c : Config). r < length c.readgroup) (sym plan) low) group)

    own : MayReceive config r group
    own = subst (MayReceive config r) (sym at) (holds.groups.each r low group)
