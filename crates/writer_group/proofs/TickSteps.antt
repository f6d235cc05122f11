-- The steps of a turn keep each other's conditions.
use Rattle.std.proofs.Common.{◌≡◌, ℕ, ◌<◌, ◌≤◌, Bool, true, List, length, map, get_or, is_some, refl, sym, ap, subst, ◌∙◌, arith, All, Option, Vec}
use Rattle.std.specs.Prelude.{vec_capacity, vec_len}
use Rattle.std.specs.List.{HoldsAt}
use Rattle.std.proofs.lemmas.List.{get_or_default, length-map}
use Rattle.std.proofs.lemmas.List.Elements.{All-weaker}
use Rattle.dataset_meta.specs.Metas.{MetaData}
use Rattle.ua_binary.specs.Wire.{flag}
use Rattle.uadp_header.specs.Spelling.{len_if}
use Rattle.dataset_writer.specs.declared.writer.Writer.{Writer}
use Rattle.message_guard.specs.Senders.{SenderState}
use Rattle.ps_config.specs.declared.parts.Config.{Config}
use Rattle.ps_config.specs.declared.parts.GroupPart.{GroupPart}
use Rattle.ps_config.specs.declared.parts.WriterPart.{WriterPart}
use Rattle.ps_config.specs.FixedSound.{IsFixedGroup}
use Rattle.ps_config.specs.Sound.{IsGroup as IsSoundGroup}
use Rattle.fixed_layout.specs.Slots.{Layout as SlotLayout}
use Rattle.ps_config.specs.Rooms.{is_fixed}
use Rattle.writer_group.specs.declared.datagrams.Datagrams.{Datagrams}
use Rattle.writer_group.specs.declared.group.Group.{Group}
use Rattle.writer_group.specs.declared.load.Load.{Load}
use Rattle.writer_group.specs.declared.sampled.Sampled.{Sampled}
use Rattle.writer_group.specs.Answering.{MayAnswer, AreAnswers}
use Rattle.writer_group.specs.Holding.{AreSpelledIn, CargoValue, listed, listed_sizes, payload_in, spelled_at}
use Rattle.writer_group.specs.Loading.{IsLoad}
use Rattle.writer_group.specs.Posting.{joined}
use Rattle.writer_group.specs.Making.{AreSpelled, MayMake, cargo_with, loads_for, spelled_in, cargo_from}
use Rattle.writer_group.specs.Payloads.{size_of, Spelled}
use Rattle.writer_group.specs.Sealing.{Payload, datagrams_from, envelope_with}
use Rattle.writer_group.specs.Needs.{bytes_need, datagrams_need, group_need}
use Rattle.writer_group.specs.Standing.{AreMetas, HasRoomOf, IsGood, IsMadeFor, IsSenderFor, KeepsRoom, MayTick}
use Rattle.writer_group.proofs.Joining.{made-count}
use Rattle.writer_group.proofs.Needs.{joined-within, need-few}
use Rattle.writer_group.proofs.SetupLaws.{few-writers}
use Rattle.writer_group.proofs.TickLaws.{payloads-of-loads}
use Rattle.writer_group.proofs.TurnPlans.{IsReady, Plans, turn-plans}
use Rattle.std.specs.declared.alloc.Global.{Global}
use Rattle.writer_group.proofs.LongestTurns.{IsTurn, none-longer}

-- the group's part of a good configuration
pub record IsPartOf (config : Config) (index : ℕ) (part : GroupPart) : Type 0 where
  pub good : IsGood config
  pub within : index < length config.group
  pub is : part ≡ get_or config.group index part
  pub class_id : len_if length part.class_id ≡ flag (is_some part.class_id) 16

here : (config : Config) (index : ℕ) (part : GroupPart) (P : GroupPart → Type 0) → IsPartOf config index part → P (get_or config.group index part) → P part
here config index part P of holds = subst P (sym of.is) holds

known-of : (config : Config) (index : ℕ) (part : GroupPart) (metas : List MetaData) → IsPartOf config index part → length metas ≡ length config.dataset
    → All (λ (writer : WriterPart). writer.dataset < length metas) part.writer
known-of config index part metas of count k d within =
    let group = here config index part (IsSoundGroup config) of (of.good.sound.groups index part of.within) in
    let writer = group.writers k d within in
    omega (arith, writer.dataset, count)

-- ---- the turns of the writers

pub may-answer : (config : Config) (index : ℕ) (part : GroupPart) (metas : List MetaData) (rows : List Sampled) (on : List Bool) (sender : Option SenderState) (group : Group) → IsPartOf config index part
    → MayTick config metas rows on sender group part → MayAnswer part metas rows on group.writers.items
may-answer config index part metas rows on sender group of may =
    let long : vec_len group.writers ≡ length group.writers.items = group.writers.ok.0 in
    record {
      writers_are = sym long ∙ may.made.writers;
      on_are = may.sampled.on_are;
      few = few-writers config index part of.good.sound of.within of.is;
      known = known-of config index part metas of may.metas_are.count;
      rows_are = may.sampled.rows_are;
      left = All-weaker (λ (w : Writer). 1 ≤ w.left) (λ (w : Writer). 0 < w.left) (λ w left. omega arith) group.writers.items may.goes_on.left;
      holds = λ w within. may.goes_on.holds w (omega (arith, long, within));
      lived = λ w within. may.goes_on.lived w (omega (arith, long, within));
    }

-- ---- making the datagrams

pub is-ready : (config : Config) (index : ℕ) (part : GroupPart) (metas : List MetaData) (sender : Option SenderState) (group : Group) (out : Datagrams) → IsPartOf config index part
    → IsMadeFor config part group → AreMetas config part metas → IsSenderFor part sender → AreSpelled part metas out
    → IsReady config part metas (cargo_with config part group out) (spelled_in out) sender (envelope_with config part group.made)
is-ready config index part metas sender group out of made_for are_metas is_sender planned =
    let sound = here config index part (IsSoundGroup config) of (of.good.sound.groups index part of.within) in
    let fixed = here config index part (λ (g : GroupPart). is_fixed g.layout ≡ true → IsFixedGroup config g) of (of.good.fixed.groups index part of.within) in
    record {
      cargo_is = record {
        frames_are = refl;
        room = refl;
        start = made_for.start;
        slots = λ is. ap (λ (l : SlotLayout). l.slots) (made_for.slots is);
      };
      answers = planned.answers;
      known = known-of config index part metas of are_metas.count;
      count = are_metas.count;
      roomy = are_metas.room;
      fixed_metas = are_metas.fixed;
      fixed = fixed;
      max_size = sound.max_size.1;
      few = omega (arith, length-map (listed out.frames) (spelled_at out.spelled.items), planned.few, few-writers config index part of.good.sound of.within of.is);
      brief = record { publisher = of.good.sound.publisher; class_id = of.class_id };
      sender_is = is_sender.sender_is;
    }

-- so none of its datagrams is too long
pub is-turn : (config : Config) (index : ℕ) (part : GroupPart) (metas : List MetaData) (frames : List Spelled) (sender : Option SenderState) → IsPartOf config index part
    → AreMetas config part metas → IsSenderFor part sender → AreAnswers part metas (length part.writer) frames → IsTurn config part metas frames sender
is-turn config index part metas frames sender of are_metas is_sender answers =
    record {
      sealed = record { there = is_sender.there; sender_is = is_sender.sender_is; class_id = of.class_id };
      answers = answers;
      roomy = are_metas.room;
      known = known-of config index part config.dataset of refl;
      fixed_metas = are_metas.fixed;
      fixed = here config index part (λ (g : GroupPart). is_fixed g.layout ≡ true → IsFixedGroup config g) of (of.good.fixed.groups index part of.within);
    }

-- the same with these loads
pub record HasLoads (config : Config) (part : GroupPart) (out then_out : Datagrams) : Type 0 where
  pub spelled : then_out.spelled ≡ out.spelled
  pub frames : then_out.frames ≡ out.frames
  pub bytes : then_out.bytes ≡ out.bytes
  pub ranges : then_out.ranges ≡ out.ranges
  pub loads : then_out.loads.items ≡ loads_for config.publisher.id part (listed_sizes out.frames)
  pub left : vec_capacity out.loads ≤ vec_capacity then_out.loads

pub same-cargo : (config : Config) (part : GroupPart) (group : Group) (out then_out : Datagrams) → HasLoads config part out then_out → cargo_with config part group then_out ≡ cargo_with config part group out
same-cargo config part group out then_out has =
    ap (λ (v : Vec ℕ Global). cargo_from config part group v.items then_out.frames) has.spelled
    ∙ ap (cargo_from config part group out.spelled.items) has.frames

pub loads-room : (config : Config) (part : GroupPart) (out then_out : Datagrams) → HasLoads config part out then_out → KeepsRoom out then_out
loads-room config part out then_out loaded need has =
    record {
      within = record {
        frames = rw loaded.spelled has.within.frames;
        bytes = rw loaded.bytes has.within.bytes;
        ranges = rw loaded.bytes (rw loaded.ranges has.within.ranges);
      };
      frames = rw loaded.spelled has.frames;
      bytes = rw loaded.bytes has.bytes;
      loads = omega (arith, has.loads, loaded.left);
      ranges = rw loaded.ranges has.ranges;
    }

-- ---- the datagrams are few and have room

-- what a turn of a group is given, in order
pub record IsInTurn (config : Config) (index : ℕ) (part : GroupPart) (metas : List MetaData) (sender : Option SenderState) (group : Group) (out : Datagrams) : Type 0 where
  pub own : IsPartOf config index part
  pub made_for : IsMadeFor config part group
  pub metas_are : AreMetas config part metas
  pub sender_is : IsSenderFor part sender
  pub spelled : AreSpelled part metas out

abbrev loads_by_sizes : Config → GroupPart → Datagrams → List Load
loads_by_sizes config part out = loads_for config.publisher.id part (map size_of (spelled_in out))

abbrev made_by_sizes : Config → GroupPart → Option SenderState → Group → Datagrams → List (List ℕ)
made_by_sizes config part sender group out =
    datagrams_from (envelope_with config part group.made) sender 0 (map (payload_in (cargo_with config part group out)) (loads_by_sizes config part out))

turn-plan : (config : Config) (index : ℕ) (part : GroupPart) (metas : List MetaData) (sender : Option SenderState) (group : Group) (out : Datagrams)
    → IsInTurn config index part metas sender group out
    → Plans (datagrams_need config.publisher.id metas part) (cargo_with config part group out) sender (envelope_with config part group.made) (loads_by_sizes config part out)
turn-plan config index part metas sender group out is =
    turn-plans config part metas (cargo_with config part group out) (spelled_in out) sender (envelope_with config part group.made)
    (is-ready config index part metas sender group out is.own is.made_for is.metas_are is.sender_is is.spelled)

made-short : (config : Config) (index : ℕ) (part : GroupPart) (metas : List MetaData) (sender : Option SenderState) (group : Group) (out : Datagrams)
    → IsInTurn config index part metas sender group out → All (λ (d : List ℕ). length d ≤ part.max_size) (made_by_sizes config part sender group out)
made-short config index part metas sender group out is =
    let frames = spelled_in out in
    let ready = is-ready config index part metas sender group out is.own is.made_for is.metas_are is.sender_is is.spelled in
    let turn = is-turn config index part metas frames sender is.own is.metas_are is.sender_is is.spelled.answers in
    subst (λ (l : List Payload). All (λ (d : List ℕ). length d ≤ part.max_size) (datagrams_from (envelope_with config part group.made) sender 0 l))
    (sym (payloads-of-loads config part (cargo_with config part group out) frames ready.cargo_is))
    (none-longer config part group.made metas frames sender turn)

made-room : (config : Config) (index : ℕ) (part : GroupPart) (metas : List MetaData) (sender : Option SenderState) (group : Group) (out : Datagrams)
    → IsInTurn config index part metas sender group out → length (joined (made_by_sizes config part sender group out)) ≤ bytes_need config.publisher.id metas part
made-room config index part metas sender group out is =
    let cargo = cargo_with config part group out in
    let loads = loads_by_sizes config part out in
    let plans = turn-plan config index part metas sender group out is in
    let count : length (made_by_sizes config part sender group out) ≡ length loads =
    made-count (envelope_with config part group.made) sender (map (payload_in cargo) loads) ∙ length-map loads (payload_in cargo) in
    joined-within config.publisher.id metas part (made_by_sizes config part sender group out) (made-short config index part metas sender group out is)
    (omega (arith, count, plans.few)) plans.room

pub may-make : (config : Config) (index : ℕ) (part : GroupPart) (metas : List MetaData) (sender : Option SenderState) (group : Group) (out then_out : Datagrams)
    → IsInTurn config index part metas sender group out → HasLoads config part out then_out → HasRoomOf (group_need config.publisher.id metas part) out
    → MayMake config part sender group then_out
may-make config index part metas sender group out then_out is has room =
    let planned = is.spelled in
    let cargo = cargo_with config part group out in
    let e = envelope_with config part group.made in
    let plans = turn-plan config index part metas sender group out is in
    let same : then_out.loads.items ≡ loads_by_sizes config part out = has.loads ∙ ap (loads_for config.publisher.id part) planned.spelled.sizes in
    let cargos = same-cargo config part group out then_out has in
    let few : length (listed out.frames) ≤ 16 = omega (arith, planned.few, few-writers config index part is.own.good.sound is.own.within is.own.is) in
    let are : All (IsLoad cargo) then_out.loads.items = subst (All (IsLoad cargo)) (sym same) plans.loads_are in
    let kept = loads-room config part out then_out has (group_need config.publisher.id metas part) room in
    let made : length (joined (datagrams_from e sender 0 (map (payload_in cargo) then_out.loads.items))) ≤ vec_len then_out.bytes =
    omega (
      arith,
      ap (λ (l : List Load). length (joined (datagrams_from e sender 0 (map (payload_in cargo) l)))) same,
      made-room config index part metas sender group out is,
      kept.bytes,
    ) in
    record {
      within = kept.within;
      none = rw has.ranges planned.no_ranges;
      left = omega (arith, ap length same, plans.few, kept.ranges);
      may = record {
        made_for = is.made_for;
        loads_are = subst (λ (value : CargoValue). All (IsLoad value) then_out.loads.items) (sym cargos) are;
        few = omega (arith, ap length same, plans.few, need-few config.publisher.id metas part);
        spelled = subst (AreSpelledIn then_out.spelled.items) (sym has.frames)
            (subst (λ (v : Vec ℕ Global). AreSpelledIn v.items out.frames) (sym has.spelled) planned.spelled);
        small = omega (arith, kept.within.frames, then_out.spelled.ok.0);
        frames_few = rw has.frames few;
        sender_is = is.sender_is;
      };
      room = subst (λ (value : CargoValue). length (joined (datagrams_from e sender 0 (map (payload_in value) then_out.loads.items))) ≤ vec_len then_out.bytes)
          (sym cargos) made;
    }

-- as many as there is room to list
pub loads-left : (config : Config) (index : ℕ) (part : GroupPart) (metas : List MetaData) (sender : Option SenderState) (group : Group) (out : Datagrams)
    → IsInTurn config index part metas sender group out
    → length (loads_for config.publisher.id part (listed_sizes out.frames)) ≤ datagrams_need config.publisher.id metas part
loads-left config index part metas sender group out is =
    omega (
      arith,
      ap (λ (l : List ℕ). length (loads_for config.publisher.id part l)) is.spelled.spelled.sizes,
      (turn-plan config index part metas sender group out is).few,
    )

pub few-sizes : (config : Config) (index : ℕ) (part : GroupPart) (metas : List MetaData) (out : Datagrams) → IsPartOf config index part → AreSpelled part metas out → length (listed_sizes out.frames) ≤ 16
few-sizes config index part metas out of planned =
    omega (
      arith,
      ap length planned.spelled.sizes,
      length-map (spelled_in out) size_of,
      length-map (listed out.frames) (spelled_at out.spelled.items),
      planned.few,
      few-writers config index part of.good.sound of.within of.is,
    )

-- ---- at the group's place in the configuration

pub at-part : (config : Config) (index : ℕ) (part : GroupPart) (P : GroupPart → Type 0) → IsPartOf config index part → P part → HoldsAt P config.group index
at-part config index part P of holds d = subst P (of.is ∙ get_or_default config.group index part d of.within) holds

pub of-part : (config : Config) (index : ℕ) (part : GroupPart) (P : GroupPart → Type 0) → IsPartOf config index part → HoldsAt P config.group index → P part
of-part config index part P of holds = subst P (sym of.is) (holds part)
