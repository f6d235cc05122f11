-- What each deed of a tick keeps where its turns hold, the tick keeps, whatever was done before it: so in lives, in which rings renew a session's keys.
use Rattle.std.proofs.Common.{◌≡◌, refl, sym, ap, ◌∙◌, subst, arith, ℕ, zero, suc, ◌+◌, ◌<◌, ◌≤◌, Bool, true, false, List, [], ◌∷◌, ◌++◌, length}
use Rattle.std.specs.Prelude.{fold}
use Rattle.std.specs.List.{range_with_len}
use Rattle.std.proofs.lemmas.List.Sums.{fold-append}
use Rattle.dataset_meta.specs.Rows.{cons_if}
use Rattle.ps_config.specs.declared.parts.Config.{Config}
use Rattle.pubsub_states.specs.declared.component.Component.TheVariants.{Group}
use Rattle.writer_group.specs.declared.sampled.Sampled.{Sampled}
use Rattle.session_model.specs.Deeds.{Deed, RefreshedBelow, CameTo, TookTurn, group_indexes, has_turn, is_rekeyed, rekeyed, tick_deeds, turn_of, turned_on}
use Rattle.session_model.specs.Steps.{Plan, Step}
use Rattle.session_model.specs.Turns.{HoldsIfTurned, deeds_till}
use Rattle.session_model.proofs.Deeds.{TickHolds}

if-done : (P : List Deed → Type 0) (b : Bool) (deed : Deed) (earlier : List Deed) → (b ≡ true → P (deed ∷ earlier)) → P earlier → P (cons_if b deed earlier)
if-done P true deed earlier more h = more refl
if-done P false deed earlier more h = h

fresh-all : (config : Config) (now : ℕ) (before : List Deed) (P : List Deed → Type 0) → ((g : ℕ) (earlier : List Deed) → P earlier → P (RefreshedBelow (Group g) ∷ earlier)) → (gs : List ℕ) (earlier : List Deed) → P earlier
    → P (fold (λ deeds g. cons_if (is_rekeyed config now before g) (RefreshedBelow (Group g)) deeds) earlier gs)
fresh-all config now before P fresh [] earlier h = h
fresh-all config now before P fresh (g ∷ gs) earlier h =
    fresh-all config now before P fresh gs (cons_if (is_rekeyed config now before g) (RefreshedBelow (Group g)) earlier)
    (if-done P (is_rekeyed config now before g) (RefreshedBelow (Group g)) earlier (λ is. fresh g earlier h) h)

range-end : (a n : ℕ) → range_with_len a (suc n) ≡ range_with_len a n ++ (a + n) ∷ []
range-end a zero = ap (λ (k : ℕ). k ∷ []) (omega arith)
range-end a (suc n) = ap (λ (l : List ℕ). a ∷ l) (range-end (a + 1) n ∙ ap (λ (k : ℕ). range_with_len (a + 1) n ++ k ∷ []) (omega arith))

pub next-till : (p : Plan) (before : List Step) (now : ℕ) (closing : Bool) (samples : List Sampled) (earlier : List Deed) (g : ℕ)
    → deeds_till p before now closing samples earlier (suc g) ≡ turned_on p before now closing samples (deeds_till p before now closing samples earlier g) g
next-till p before now closing samples earlier g =
    ap (fold (turned_on p before now closing samples) (rekeyed p.config now earlier)) (range-end 0 g ∙ ap (λ (k : ℕ). range_with_len 0 g ++ k ∷ []) (omega arith))
    ∙ fold-append (turned_on p before now closing samples) (rekeyed p.config now earlier) (range_with_len 0 g) (g ∷ [])

module _ (p : Plan) (before : List Step) (now : ℕ) (closing : Bool) (samples : List Sampled) (earlier : List Deed) (P : List Deed → Type 0) (keeps : TickHolds p before now closing samples P) where
  abbrev till : ℕ → List Deed
  till g = deeds_till p before now closing samples earlier g

  hold-till : ((g : ℕ) → g < length p.config.group → HoldsIfTurned p before now closing samples (till g) g) → (g : ℕ) → g ≤ length p.config.group → P (rekeyed p.config now earlier) → P (till g)
  hold-till holds zero le h = h
  hold-till holds (suc g) le h =
      let there : g < length p.config.group = omega (arith, le) in
      let so_far = hold-till holds g (omega (arith, le)) h in
      subst P (sym (next-till p before now closing samples earlier g))
      (if-done P (has_turn p before now closing (till g) g) (TookTurn g (turn_of p before now closing samples (till g) g)) (till g) (λ has. keeps.turn g (till g) there has (holds g there has) so_far) so_far)

  pub life-tick : ((g : ℕ) → g < length p.config.group → HoldsIfTurned p before now closing samples (till g) g) → P earlier → P (tick_deeds p before now closing samples earlier)
  life-tick holds h =
      hold-till holds (length p.config.group) (omega arith)
      (fresh-all p.config now earlier P keeps.fresh (group_indexes p.config) (CameTo now ∷ earlier) (keeps.came earlier h))
