-- A course follows a line.
use Rattle.std.proofs.Common.{◌≡◌, ℕ, ◌+◌, ◌<◌, Bool, false, List, ◌∷◌, length, get_or, set, sym, ap, ◌∙◌, subst, arith}
use Rattle.std.proofs.lemmas.List.{length_push}
use Rattle.std.proofs.lemmas.List.Elements.{All-push}
use Rattle.dataset_meta.specs.Metas.{MetaData}
use Rattle.row_words.specs.declared.patch.Patch.{Patch}
use Rattle.ps_script.specs.declared.script.Act.TheVariants as act
use Rattle.ps_script.specs.declared.script.Line.{Line}
use Rattle.ps_script.specs.Sessions.{is_tick}
use Rattle.ua_base.specs.declared.link.Fate.{Fate}
use Rattle.writer_group.specs.declared.sampled.Sampled.{Sampled}
use Rattle.writer_group.specs.Turns.{no_sample}
use Rattle.session_model.specs.Sets.{AreRowsOf, meta_in}
use Rattle.script_player.proofs.Lines.{count_by-cons, write_line}
use Rattle.lane_groups.specs.declared.turn.TurnIn.{TurnIn}
use Rattle.lane_groups.specs.Turns.{AreTurns}
use Rattle.cmd_lanes.specs.declared.course.Course.{Course}
use Rattle.cmd_lanes.specs.Courses.{HaveRows, IsCourse, IsTicked, IsWritten, written}
use Rattle.cmd_lanes.specs.Scripts.{ticks_by}
use Rattle.cmd_lanes.proofs.Samples.{samples-written}

pub ticked-have : (metas : List MetaData) (old new : Course) (ms : ℕ) (closing : Bool) → IsTicked ms closing old new → AreRowsOf metas old.rows.items → HaveRows metas old.turns.items
    → HaveRows metas new.turns.items
ticked-have metas old new ms closing is belong have =
    subst (HaveRows metas) (sym is.turns)
    (All-push (λ (turn : TurnIn). AreRowsOf metas turn.rows.items) old.turns.items is.turn have (subst (AreRowsOf metas) (sym is.rows_are) belong))

module _ (metas : List MetaData) (lines : List Line) (at : ℕ) (old new : Course) (was : IsCourse metas lines old) where
  -- it writes
  pub follows-write : (thread index : ℕ) (patch : Patch) → index < length metas → IsWritten metas index patch old new → IsCourse metas (write_line at thread index patch ∷ lines) new
  follows-write thread index patch low is = record {
    moment = ap (λ (c : Course). c.now) is.rest ∙ was.moment;
    rows = is.rows no_sample
        ∙ ap (λ (rows : List Sampled). set rows index (written (meta_in metas index) patch (get_or rows index no_sample))) was.rows
        ∙ samples-written metas lines at thread index patch no_sample low;
    belong = is.belong;
    turns = subst (λ (turns : List TurnIn). AreTurns (ticks_by metas lines) turns) (sym same) was.turns;
    have = subst (HaveRows metas) (sym same) was.have;
    count = let e = ap length same in omega (arith, e, was.count, count_by-cons (λ (l : Line). is_tick l.act) (write_line at thread index patch) lines);
  }
    where
      same : new.turns.items ≡ old.turns.items
      same = ap (λ (c : Course). c.turns.items) is.rest

  -- it ticks
  pub follows-tick : (ms : ℕ) → IsTicked ms false old new → IsCourse metas (record { at = at; act = act.Tick ms } ∷ lines) new
  follows-tick ms is = record {
    moment = is.moment ∙ ap (λ (n : ℕ). n + ms) was.moment;
    rows = ap (λ rows. rows.items) is.rows ∙ was.rows;
    belong = subst (λ rows. AreRowsOf metas rows.items) (sym is.rows) was.belong;
    turns = (
      old.turns.items,
      is.turn,
      was.turns,
      record { now_is = is.now_is ∙ ap (λ (n : ℕ). n + ms) was.moment; closing_is = is.closing_is; rows_are = is.rows_are ∙ was.rows },
      is.turns,
    );
    have = ticked-have metas old new ms false is was.belong was.have;
    count = let e = ap length is.turns in
        omega (arith, e, was.count, length_push old.turns.items is.turn, count_by-cons (λ (l : Line). is_tick l.act) (record { at = at; act = act.Tick ms }) lines);
  }

  -- it gives a fate
  pub follows-fate : (number : ℕ) (fate : Fate) → new ≡ old → IsCourse metas (record { at = at; act = act.Fated number fate } ∷ lines) new
  follows-fate number fate same =
      subst (IsCourse metas (record { at = at; act = act.Fated number fate } ∷ lines)) (sym same)
      (record {
        moment = was.moment;
        rows = was.rows;
        belong = was.belong;
        turns = was.turns;
        have = was.have;
        count = omega (arith, was.count, count_by-cons (λ (l : Line). is_tick l.act) (record { at = at; act = act.Fated number fate }) lines);
      })
