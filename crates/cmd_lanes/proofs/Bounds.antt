-- What a script's lines can be counted on to do.
use Rattle.std.proofs.Common.{◌≡◌, ℕ, ◌+◌, ◌*◌, ◌<◌, ◌≤◌, Bool, true, false, cond, List, [], ◌∷◌, ◌++◌, length, take, get_or, reverse, refl, sym, ap, ◌∙◌, subst, arith, None}
use Rattle.std.specs.Prelude.{count_by, ◌==◌}
use Rattle.std.proofs.lemmas.List.{length_push, take_all}
use Rattle.std.proofs.lemmas.List.Sums.{sum_by-take-le}
use Rattle.std.proofs.lemmas.Option.{slice_get-get_or}
use Rattle.dataset_meta.specs.Metas.{MetaData}
use Rattle.version_cell.specs.declared.rule.Entry.{Entry}
use Rattle.version_cell.specs.Histories.{entry, row_after}
use Rattle.row_words.specs.declared.patch.Patch.{Patch}
use Rattle.row_words.specs.Patches.{patched_words}
use Rattle.ps_config.specs.declared.parts.Config.{Config}
use Rattle.ps_script.specs.declared.script.Act.{Act}
use Rattle.ps_script.specs.declared.script.Act.TheVariants as act
use Rattle.ps_script.specs.declared.script.Line.{Line}
use Rattle.ps_script.specs.declared.script.Script.{Script}
use Rattle.ps_script.specs.Sessions.{is_tick}
use Rattle.ps_script.specs.Sound.{IsAct, IsScript, is_some_write}
use Rattle.session_model.specs.Sets.{meta_in}
use Rattle.session_model.specs.Steps.{Tick, moment_of}
use Rattle.script_player.specs.Playing.{log_after, samples_after, with_write}
use Rattle.script_player.proofs.Lines.{count_by-cons, count_by-reverse}
use Rattle.script_player.proofs.Next.{turned_more}
use Rattle.lane_groups.specs.Turns.{AreTurns}
use Rattle.cmd_lanes.specs.declared.course.Course.{Course}
use Rattle.cmd_lanes.specs.Courses.{AreTurnsOf, IsCourse, IsTicked, MayFollow, MayTick, MayWrite}
use Rattle.cmd_lanes.specs.Scripts.{is_taken, refusal, ticks_by, with_tick}
use Rattle.cmd_lanes.proofs.Following.{ticked-have}
use Rattle.cmd_lanes.proofs.Samples.{sample-at}
use Rattle.cmd_lanes.proofs.Taken.{same-metas, taken-all, taken-at}

-- a data set has no more versions than there are writes
act-writes : (meta : MetaData) (index : ℕ) (log : List Entry) (what : Act) → length (with_write meta index log what) ≤ length log + cond (is_some_write what) 1 0
act-writes meta index log (act.Write thread other patch) = by_case (other == index)
  where
    by_case : (b : Bool) → length (cond b (log ++ entry thread (patched_words meta.fields patch (row_after log)) ∷ []) log) ≤ length log + 1
    by_case true = let e = length_push log (entry thread (patched_words meta.fields patch (row_after log))) in omega (arith, e)
    by_case false = omega arith
act-writes meta index log (act.Tick ms) = omega arith
act-writes meta index log (act.Enable id) = omega arith
act-writes meta index log (act.Disable id) = omega arith
act-writes meta index log (act.Fated number fate) = omega arith
act-writes meta index log (act.Watch thread reader times) = omega arith
act-writes meta index log (act.Append set) = omega arith

few-versions : (meta : MetaData) (index : ℕ) (lines : List Line) → length (log_after meta index lines) ≤ count_by (λ (l : Line). is_some_write l.act) lines
few-versions meta index [] = omega arith
few-versions meta index (line ∷ lines) =
    let one = act-writes meta index (log_after meta index lines) line.act in
    omega (arith, one, few-versions meta index lines, count_by-cons (λ (l : Line). is_some_write l.act) line lines)

-- the first lines have no more of a kind than all
part : (test : Line → Bool) (k : ℕ) (lines : List Line) → count_by test (reverse (take k lines)) ≤ count_by test lines
part test k lines = omega (arith, count_by-reverse test (take k lines), sum_by-take-le (λ (l : Line). cond (test l) 1 0) lines k)

-- ---- the lines of a script

-- the first k lines of the script were followed, and time passed no faster than it may
pub record IsUnderway (config : Config) (script : Script) (k : ℕ) (course : Course) : Type 0 where
  pub course_is : IsCourse config.dataset (reverse (take k script.lines)) course
  pub slow : course.now ≤ 3600000 * length course.turns.items

-- an act takes no more than an hour, and only one that is a tick takes any time
abbrev Lasts : Act → Type 0
Lasts (act.Tick ms) = ms ≤ 3600000
Lasts (act.Write thread set patch) = Unit {0}
Lasts (act.Enable id) = Unit {0}
Lasts (act.Disable id) = Unit {0}
Lasts (act.Fated number fate) = Unit {0}
Lasts (act.Watch thread reader times) = Unit {0}
Lasts (act.Append set) = Unit {0}

act-lasts : (config : Config) (full : List MetaData) (before : List Line) (what : Act) → IsAct config full before what → Lasts what
act-lasts config full before (act.Tick ms) is = is.1
act-lasts config full before (act.Write thread set patch) is = tt
act-lasts config full before (act.Enable id) is = tt
act-lasts config full before (act.Disable id) is = tt
act-lasts config full before (act.Fated number fate) is = tt
act-lasts config full before (act.Watch thread reader times) is = tt
act-lasts config full before (act.Append set) is = tt

moment-more : (metas : List MetaData) (lines : List Line) (line : Line) → Lasts line.act
    → moment_of (ticks_by metas (line ∷ lines)) ≤ moment_of (ticks_by metas lines) + 3600000 * cond (is_tick line.act) 1 0
moment-more metas lines line lasts = go line.act lasts
  where
    go : (what : Act) → Lasts what → moment_of (with_tick metas lines what (ticks_by metas lines)) ≤ moment_of (ticks_by metas lines) + 3600000 * cond (is_tick what) 1 0
    go (act.Tick ms) lasts = omega (arith, lasts)
    go (act.Write thread set patch) lasts = omega arith
    go (act.Enable id) lasts = omega arith
    go (act.Disable id) lasts = omega arith
    go (act.Fated number fate) lasts = omega arith
    go (act.Watch thread reader times) lasts = omega arith
    go (act.Append set) lasts = omega arith

module _ (config : Config) (script : Script) (k : ℕ) (d : Line) (is : IsScript config script) (taken : refusal script ≡ None) (low : k < length script.lines) where
  abbrev pub line_at : Line
  line_at = get_or script.lines k d

  act-at : IsAct config config.dataset (take k script.lines) line_at.act
  act-at = subst (λ (metas : List MetaData). IsAct config metas (take k script.lines) line_at.act) (same-metas config script is taken) (is.acts k line_at (slice_get-get_or script.lines k d low))

  module _ (course : Course) (under : IsUnderway config script k course) where
    few-ticks : length course.turns.items ≤ 4096
    few-ticks = let all = is.few.ticks in omega (arith, under.course_is.count, part (λ (l : Line). is_tick l.act) k script.lines, all)

    may-write : (thread index : ℕ) (patch : Patch) → line_at.act ≡ act.Write thread index patch → MayWrite config.dataset index patch course
    may-write thread index patch e =
        let write = subst (λ (what : Act). IsAct config config.dataset (take k script.lines) what) e act-at in
        record {
          there = write.there;
          rows = under.course_is.belong;
          patch_is = write.of;
          counted = λ x.
              let version = ap (λ rows. (get_or rows index x).version) under.course_is.rows ∙ ap (λ s. s.version) (sample-at config.dataset (reverse (take k script.lines)) index x write.there) in
              let few = few-versions (meta_in config.dataset index) index (reverse (take k script.lines)) in
              let writes = is.few.writes in
              omega (arith, version, few, part (λ (l : Line). is_some_write l.act) k script.lines, writes);
        }

    may-tick : (ms : ℕ) → ms ≤ 3600000 → MayTick ms course
    may-tick ms short = let few = few-ticks in omega (arith, under.slow, few, short)

    pub may-follow : MayFollow config.dataset line_at.act course
    may-follow = go line_at.act refl
      where
        taken-here : is_taken line_at.act ≡ true
        taken-here = taken-at script.lines k d (taken-all script.lines taken) low

        untaken : (what : Act) → line_at.act ≡ what → is_taken what ≡ false → ⊥
        untaken what e not = let wrong : false ≡ true = sym not ∙ ap is_taken (sym e) ∙ taken-here in cc

        go : (what : Act) → line_at.act ≡ what → MayFollow config.dataset what course
        go (act.Write thread index patch) e = may-write thread index patch e
        go (act.Tick ms) e = may-tick ms (subst (λ (what : Act). IsAct config config.dataset (take k script.lines) what) e act-at).1
        go (act.Fated number fate) e = tt
        go (act.Enable id) e = untaken (act.Enable id) e refl
        go (act.Disable id) e = untaken (act.Disable id) e refl
        go (act.Watch thread reader times) e = untaken (act.Watch thread reader times) e refl
        go (act.Append set) e = untaken (act.Append set) e refl

    -- one line more
    pub underway-more : (new : Course) → ((lines : List Line) (line : Line) → line.act ≡ line_at.act → IsCourse config.dataset lines course → IsCourse config.dataset (line ∷ lines) new)
        → IsUnderway config script (k + 1) new
    underway-more new follows =
        let next = follows (reverse (take k script.lines)) line_at refl under.course_is in
        record {
          course_is = subst (λ (l : List Line). IsCourse config.dataset l new) (sym (turned_more script.lines k d low)) next;
          slow =
              let more = moment-more config.dataset (reverse (take k script.lines)) line_at (act-lasts config config.dataset (take k script.lines) line_at.act act-at) in
              let here = under.course_is.moment in
              let counted = count_by-cons (λ (l : Line). is_tick l.act) line_at (reverse (take k script.lines)) in
              omega (arith, more, here, next.moment, next.count, under.course_is.count, counted, under.slow);
        }

-- ---- the beginning and the end

pub underway-none : (config : Config) (script : Script) (course : Course) → IsCourse config.dataset [] course → IsUnderway config script 0 course
underway-none config script course is = record { course_is = is; slow = let none = is.moment in omega (arith, none) }

-- the closing tick
module _ (config : Config) (script : Script) (k : ℕ) (course : Course) (is : IsScript config script) (taken : refusal script ≡ None) (end : length script.lines ≤ k) (under : IsUnderway config script k course) where
  whole : IsCourse config.dataset (reverse script.lines) course
  whole = subst (λ (l : List Line). IsCourse config.dataset (reverse l) course) (take_all k script.lines end) under.course_is

  pub may-close : MayTick 0 course
  may-close = let all = is.few.ticks in omega (arith, under.slow, under.course_is.count, part (λ (l : Line). is_tick l.act) k script.lines, all)

  pub turns-are : (new : Course) → IsTicked 0 true course new → AreTurnsOf config script new.turns.items
  turns-are new ticked = record {
    are = subst (λ (metas : List MetaData). AreTurns (Tick 0 true (samples_after metas (reverse script.lines)) [] ∷ ticks_by metas (reverse script.lines)) new.turns.items) (sym (same-metas config script is taken)) (
      course.turns.items,
      ticked.turn,
      whole.turns,
      record { now_is = ticked.now_is ∙ ap (λ (n : ℕ). n + 0) whole.moment; closing_is = ticked.closing_is; rows_are = ticked.rows_are ∙ whole.rows },
      ticked.turns,
    );
    have = ticked-have config.dataset course new 0 true ticked whole.belong whole.have;
    few = let all = is.few.ticks in
        let e = ap length ticked.turns in
        omega (arith, e, whole.count, count_by-reverse (λ (l : Line). is_tick l.act) script.lines, length_push course.turns.items ticked.turn, all);
  }
