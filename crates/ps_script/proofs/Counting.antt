-- How many lines of each kind there were, and the fates.
use Rattle.std.proofs.Common.{◌≡◌, ◌⊎◌, inl, inr, ℕ, ◌+◌, ◌<◌, ◌≤◌, ◌==◌, Bool, true, false, ◌||◌, cond, eqb, List, [], ◌∷◌, ◌++◌, length, refl, sym, ap, ◌∙◌, subst, arith, length-append}
use Rattle.std.specs.Prelude.{count_by}
use Rattle.std.specs.List.{list_any}
use Rattle.std.proofs.lemmas.Bool.{false≢true, or_parts, or_from, ne_eqb, eqb-false}
use Rattle.std.proofs.lemmas.List.{append-nil, flat_map_more}
use Rattle.std.proofs.lemmas.List.Folds.{list_any-append}
use Rattle.std.proofs.lemmas.List.Sums.{sum_by_push}
use Rattle.dataset_meta.specs.Metas.{MetaData}
use Rattle.ua_base.specs.declared.link.Fate.{Fate}
use Rattle.ua_base.specs.Fates.{IsFate, AreFates}
use Rattle.ps_config.specs.declared.parts.Config.{Config}
use Rattle.ps_script.specs.declared.script.Line.{Line}
use Rattle.ps_script.specs.declared.script.Act.{Act}
use Rattle.ps_script.specs.declared.script.Act.TheVariants as act
use Rattle.ps_script.specs.Past.{Done}
use Rattle.ps_script.specs.Sessions.{is_tick, fates_of, fates_by}
use Rattle.ps_script.specs.Sound.{is_some_write, is_watch, is_some_append}
use Rattle.ps_script.proofs.Fine.{GaveFate, Does}

-- ---- counts

pub record Counts (p : Act → Bool) (count : Done → ℕ) (most : ℕ) (before : List Line) (done : Done) : Type 0 where
  pub told : count_by (λ line. p line.act) before ≡ count done
  pub few : count done ≤ most

-- a line that is counted, or isn't
abbrev Counted : (p : Act → Bool) (count : Done → ℕ) (most : ℕ) (a : Act) (done next : Done) → Type 0
Counted p count most a done next = ((p a ≡ false) × (count next ≡ count done)) ⊎ ((p a ≡ true) × (count next ≡ count done + 1) × (count done < most))

counts_more : (p : Act → Bool) (before : List Line) (line : Line) → count_by (λ (l : Line). p l.act) (before ++ line ∷ []) ≡ count_by (λ (l : Line). p l.act) before + cond (p line.act) 1 0
counts_more p before line = sum_by_push (λ (l : Line). cond (p l.act) 1 0) before line

none_more : (n : ℕ) → n + 0 ≡ n
none_more n = omega arith

counts_next : (p : Act → Bool) (count : Done → ℕ) (most : ℕ) (before : List Line) (number : ℕ) (a : Act) (done next : Done) → Counted p count most a done next → Counts p count most before done
    → Counts p count most (before ++ record { at = number; act = a } ∷ []) next
counts_next p count most before number a done next (inl other) c = record {
  told =
      counts_more p before (record { at = number; act = a })
      ∙ ap (λ (v : Bool). count_by (λ (l : Line). p l.act) before + cond v 1 0) other.0
      ∙ none_more (count_by (λ (l : Line). p l.act) before) ∙ c.told ∙ sym other.1;
  few = subst (λ (n : ℕ). n ≤ most) (sym other.1) c.few;
}
counts_next p count most before number a done next (inr one) c =
    let lt : count done < most = one.2 in
    record {
      told =
          counts_more p before (record { at = number; act = a })
          ∙ ap (λ (v : Bool). count_by (λ (l : Line). p l.act) before + cond v 1 0) one.0
          ∙ ap (λ (n : ℕ). n + 1) c.told ∙ sym one.1;
      few = subst (λ (n : ℕ). n ≤ most) (sym one.1) (omega arith);
    }

abbrev pub ticks_of : Done → ℕ
ticks_of done = done.ticks

abbrev pub writes_of : Done → ℕ
writes_of done = done.writes

abbrev pub watches_of : Done → ℕ
watches_of done = done.watches

abbrev pub appends_of : Done → ℕ
appends_of done = done.appends

counted_tick : (config : Config) (takes_fates : Bool) (full : List MetaData) (done next : Done) (a : Act) → Does config takes_fates full done next a → Counted is_tick ticks_of 4096 a done next
counted_tick config takes_fates full done next (act.Write thread set patch) w = inl (refl, ap ticks_of w.leaves)
counted_tick config takes_fates full done next (act.Tick ms) w = inr (refl, ap ticks_of w.leaves, w.few)
counted_tick config takes_fates full done next (act.Enable id) w = inl (refl, ap ticks_of w.leaves)
counted_tick config takes_fates full done next (act.Disable id) w = inl (refl, ap ticks_of w.leaves)
counted_tick config takes_fates full done next (act.Fated k fate) w = inl (refl, ap ticks_of w.leaves)
counted_tick config takes_fates full done next (act.Watch thread reader times) w = inl (refl, ap ticks_of w.leaves)
counted_tick config takes_fates full done next (act.Append set) w = inl (refl, ap ticks_of w.leaves)

counted_write : (config : Config) (takes_fates : Bool) (full : List MetaData) (done next : Done) (a : Act) → Does config takes_fates full done next a → Counted is_some_write writes_of 32768 a done next
counted_write config takes_fates full done next (act.Write thread set patch) w = inr (refl, ap writes_of w.leaves, w.few)
counted_write config takes_fates full done next (act.Tick ms) w = inl (refl, ap writes_of w.leaves)
counted_write config takes_fates full done next (act.Enable id) w = inl (refl, ap writes_of w.leaves)
counted_write config takes_fates full done next (act.Disable id) w = inl (refl, ap writes_of w.leaves)
counted_write config takes_fates full done next (act.Fated k fate) w = inl (refl, ap writes_of w.leaves)
counted_write config takes_fates full done next (act.Watch thread reader times) w = inl (refl, ap writes_of w.leaves)
counted_write config takes_fates full done next (act.Append set) w = inl (refl, ap writes_of w.leaves)

counted_watch : (config : Config) (takes_fates : Bool) (full : List MetaData) (done next : Done) (a : Act) → Does config takes_fates full done next a → Counted is_watch watches_of 64 a done next
counted_watch config takes_fates full done next (act.Write thread set patch) w = inl (refl, ap watches_of w.leaves)
counted_watch config takes_fates full done next (act.Tick ms) w = inl (refl, ap watches_of w.leaves)
counted_watch config takes_fates full done next (act.Enable id) w = inl (refl, ap watches_of w.leaves)
counted_watch config takes_fates full done next (act.Disable id) w = inl (refl, ap watches_of w.leaves)
counted_watch config takes_fates full done next (act.Fated k fate) w = inl (refl, ap watches_of w.leaves)
counted_watch config takes_fates full done next (act.Watch thread reader times) w = inr (refl, ap watches_of w.leaves, w.few)
counted_watch config takes_fates full done next (act.Append set) w = inl (refl, ap watches_of w.leaves)

counted_append : (config : Config) (takes_fates : Bool) (full : List MetaData) (done next : Done) (a : Act) → Does config takes_fates full done next a → Counted is_some_append appends_of 16 a done next
counted_append config takes_fates full done next (act.Write thread set patch) w = inl (refl, ap appends_of w.leaves)
counted_append config takes_fates full done next (act.Tick ms) w = inl (refl, ap appends_of w.leaves)
counted_append config takes_fates full done next (act.Enable id) w = inl (refl, ap appends_of w.leaves)
counted_append config takes_fates full done next (act.Disable id) w = inl (refl, ap appends_of w.leaves)
counted_append config takes_fates full done next (act.Fated k fate) w = inl (refl, ap appends_of w.leaves)
counted_append config takes_fates full done next (act.Watch thread reader times) w = inl (refl, ap appends_of w.leaves)
counted_append config takes_fates full done next (act.Append set) w = inr (refl, ap appends_of w.leaves, w.few)

pub record TellsCounts (before : List Line) (done : Done) : Type 0 where
  pub ticks : Counts is_tick ticks_of 4096 before done
  pub writes : Counts is_some_write writes_of 32768 before done
  pub watches : Counts is_watch watches_of 64 before done
  pub appends : Counts is_some_append appends_of 16 before done

pub counted : (config : Config) (takes_fates : Bool) (full : List MetaData) (before : List Line) (number : ℕ) (done next : Done) (a : Act) → Does config takes_fates full done next a → TellsCounts before done
    → TellsCounts (before ++ record { at = number; act = a } ∷ []) next
counted config takes_fates full before number done next a w t = record {
  ticks = counts_next is_tick ticks_of 4096 before number a done next (counted_tick config takes_fates full done next a w) t.ticks;
  writes = counts_next is_some_write writes_of 32768 before number a done next (counted_write config takes_fates full done next a w) t.writes;
  watches = counts_next is_watch watches_of 64 before number a done next (counted_watch config takes_fates full done next a w) t.watches;
  appends = counts_next is_some_append appends_of 16 before number a done next (counted_append config takes_fates full done next a w) t.appends;
}

-- ---- fates

pub record TellsFates (takes_fates : Bool) (before : List Line) (done : Done) : Type 0 where
  pub are : AreFates (fates_of before)
  pub same : (k : ℕ) → list_any (λ (other : ℕ). other == k) done.fated ≡ list_any (λ (other : ℕ × Fate). other.0 == k) (fates_of before)
  pub told : length (fates_of before) ≡ length done.fated
  pub few : length done.fated ≤ 256
  pub none : takes_fates ≡ false → fates_of before ≡ []

fates_more : (before : List Line) (line : Line) → fates_of (before ++ line ∷ []) ≡ fates_of before ++ fates_by line.act
fates_more before line = sym (flat_map_more (λ (l : Line). fates_by l.act) [] before line)

fates_kept : (takes_fates : Bool) (before : List Line) (line : Line) (done next : Done) → next.fated ≡ done.fated → fates_by line.act ≡ [] → TellsFates takes_fates before done → TellsFates takes_fates (before ++ line ∷ []) next
fates_kept takes_fates before line done next fated none t =
    let stay : fates_of (before ++ line ∷ []) ≡ fates_of before =
    fates_more before line ∙ ap (λ (fs : List (ℕ × Fate)). fates_of before ++ fs) none ∙ append-nil (fates_of before) in
    record {
      are = subst AreFates (sym stay) t.are;
      same = λ k. ap (λ (ks : List ℕ). list_any (λ (other : ℕ). other == k) ks) fated ∙ t.same k ∙ ap (λ (fs : List (ℕ × Fate)). list_any (λ (other : ℕ × Fate). other.0 == k) fs) (sym stay);
      told = ap (λ (fs : List (ℕ × Fate)). length fs) stay ∙ t.told ∙ ap (λ (ks : List ℕ). length ks) (sym fated);
      few = subst (λ (ks : List ℕ). length ks ≤ 256) (sym fated) t.few;
      none = λ e. stay ∙ t.none e;
    }

apart : (k j : ℕ) → eqb k j ≡ false → eqb j k ≡ false
apart k j e = ne_eqb j k (λ same. eqb-false k j e (sym same))

fates_push : (fates : List (ℕ × Fate)) (number : ℕ) (fate : Fate) → AreFates fates → IsFate number fate → list_any (λ (other : ℕ × Fate). other.0 == number) fates ≡ false
    → AreFates (fates ++ (number, fate) ∷ [])
fates_push [] number fate are is none = (is, refl, tt)
fates_push (f ∷ fates) number fate are is none =
    let p = or_parts (f.0 == number) (list_any (λ (other : ℕ × Fate). other.0 == number) fates) none in (
      are.0,
      list_any-append (λ (other : ℕ × Fate). other.0 == f.0) fates ((number, fate) ∷ [])
          ∙ or_from (list_any (λ (other : ℕ × Fate). other.0 == f.0) fates) (number == f.0 || false) are.1 (or_from (number == f.0) false (apart f.0 number p.0) refl),
      fates_push fates number fate are.2 is p.1,
    )

fated_next : (takes_fates : Bool) (before : List Line) (number k : ℕ) (fate : Fate) (done next : Done) → GaveFate takes_fates done next k fate → TellsFates takes_fates before done
    → TellsFates takes_fates (before ++ record { at = number; act = act.Fated k fate } ∷ []) next
fated_next takes_fates before number k fate done next g t =
    let more : fates_of (before ++ record { at = number; act = act.Fated k fate } ∷ []) ≡ fates_of before ++ (k, fate) ∷ [] = fates_more before (record { at = number; act = act.Fated k fate }) in
    let fated : next.fated ≡ done.fated ++ k ∷ [] = ap (λ (d : Done). d.fated) g.leaves in
    record {
      are = subst AreFates (sym more) (fates_push (fates_of before) k fate t.are g.is_fated.is_fate (sym (t.same k) ∙ g.fresh));
      same = λ j.
          ap (λ (ks : List ℕ). list_any (λ (other : ℕ). other == j) ks) fated
          ∙ list_any-append (λ (other : ℕ). other == j) done.fated (k ∷ [])
          ∙ ap (λ v. v || (k == j || false)) (t.same j)
          ∙ sym (list_any-append (λ (other : ℕ × Fate). other.0 == j) (fates_of before) ((k, fate) ∷ []))
          ∙ ap (λ (fs : List (ℕ × Fate)). list_any (λ (other : ℕ × Fate). other.0 == j) fs) (sym more);
      told =
          ap (λ (fs : List (ℕ × Fate)). length fs) more ∙ length-append (fates_of before) ((k, fate) ∷ [])
          ∙ ap (λ (n : ℕ). n + 1) t.told ∙ sym (length-append done.fated (k ∷ [])) ∙ ap (λ (ks : List ℕ). length ks) (sym fated);
      few = subst (λ (ks : List ℕ). length ks ≤ 256) (sym fated) (omega (arith, length-append done.fated (k ∷ []), g.few));
      none = λ e. absurd (false≢true (sym e ∙ g.has_fates));
    }

pub fates_next : (config : Config) (takes_fates : Bool) (full : List MetaData) (before : List Line) (number : ℕ) (done next : Done) (a : Act) → Does config takes_fates full done next a → TellsFates takes_fates before done
    → TellsFates takes_fates (before ++ record { at = number; act = a } ∷ []) next
fates_next config takes_fates full before number done next (act.Write thread set patch) w t = fates_kept takes_fates before (record { at = number; act = act.Write thread set patch }) done next (ap (λ (d : Done). d.fated) w.leaves) refl t
fates_next config takes_fates full before number done next (act.Tick ms) w t = fates_kept takes_fates before (record { at = number; act = act.Tick ms }) done next (ap (λ (d : Done). d.fated) w.leaves) refl t
fates_next config takes_fates full before number done next (act.Enable id) w t = fates_kept takes_fates before (record { at = number; act = act.Enable id }) done next (ap (λ (d : Done). d.fated) w.leaves) refl t
fates_next config takes_fates full before number done next (act.Disable id) w t = fates_kept takes_fates before (record { at = number; act = act.Disable id }) done next (ap (λ (d : Done). d.fated) w.leaves) refl t
fates_next config takes_fates full before number done next (act.Fated k fate) w t = fated_next takes_fates before number k fate done next w t
fates_next config takes_fates full before number done next (act.Watch thread reader times) w t = fates_kept takes_fates before (record { at = number; act = act.Watch thread reader times }) done next (ap (λ (d : Done). d.fated) w.leaves) refl t
fates_next config takes_fates full before number done next (act.Append set) w t = fates_kept takes_fates before (record { at = number; act = act.Append set }) done next (ap (λ (d : Done). d.fated) w.leaves) refl t
