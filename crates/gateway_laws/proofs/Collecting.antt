-- A gateway's samples: each is the count of its source's stores at some round, with the row of the last of them.
use Rattle.std.proofs.Common.{◌≡◌, refl, sym, ap, ◌∙◌, subst, arith, ℕ, zero, suc, ◌+◌, ◌<◌, ◌≤◌, Bool, true, false, List, [], ◌∷◌, length, get_or, inl, inr}
use Rattle.std.specs.Prelude.{◌||◌, nat_lt, slice_index_or}
use Rattle.std.specs.List.{AllZip}
use Rattle.std.proofs.lemmas.Bool.Decides.{nat_tests}
use Rattle.std.proofs.lemmas.List.{get_or_past}
use Rattle.dataset_meta.specs.Metas.{MetaData, no_meta}
use Rattle.row_words.specs.Belonging.{Belongs, row_in}
use Rattle.ps_config.specs.declared.parts.Config.{Config}
use Rattle.writer_group.specs.declared.sampled.Sampled.{Sampled}
use Rattle.writer_group.specs.Turns.{no_sample}
use Rattle.session_model.specs.Steps as steps
use Rattle.session_model.specs.Steps.{Plan, Step}
use Rattle.session_model.specs.Sets.{meta_in}
use Rattle.session_model.specs.Keeping.{AreSteps}
use Rattle.session_model.specs.Stores.{stores}
use Rattle.session_model.specs.Counts.{is_closed, pumps_in, ticks_in}
use Rattle.session_laws.specs.Sessions.{HasSample, SamplesRise, AreVersions}
use Rattle.gateway_laws.specs.Sources.{Source, source_at}
use Rattle.gateway_laws.specs.Relays.{RelayStep, Enable, Disable, Append, Round, firsts, seconds, store_row, AreCollected, Collects, WasCounted, stores_of, stored_rows}
use Rattle.gateway_laws.proofs.Storing.{Extends, extends-then, step-extends, row-none}
use Rattle.gateway_core.specs.Lived.{plan_again}

module _ (first second : Config) (sources : List Source) where
  -- a sample of a data set, by the stores of its source up to now
  pub record IsStored (now : List Step) (set : ℕ) (sample : Sampled) : Type 0 where
    pub past : length second.dataset ≤ set → sample.version ≡ 0
    pub count : sample.version ≤ length (stores_of first sources set now)
    pub row : row_in (meta_in second.dataset set).fields sample.row.words ≡ stored_rows first second sources now set sample.version

  two-later : (set : ℕ) (one other : Step) (now : List Step) → Extends (meta_in second.dataset set) (stores_of first sources set now) (stores_of first sources set (one ∷ other ∷ now))
  two-later set one other now =
      let meta = meta_in second.dataset set in let r = (source_at sources set).read_group in let i = (source_at sources set).reader in
      extends-then meta (stores first r i now) (stores first r i (other ∷ now)) (stores first r i (one ∷ other ∷ now)) (step-extends meta first r i other now) (step-extends meta first r i one (other ∷ now))

  stored-later : (old new : List Step) (set : ℕ) (sample : Sampled) → Extends (meta_in second.dataset set) (stores_of first sources set old) (stores_of first sources set new) → IsStored old set sample → IsStored new set sample
  stored-later old new set sample more is = record {
    past = is.past;
    count = let a = is.count in let b = more.count in omega (arith, a, b);
    row = is.row ∙ sym (more.rows sample.version is.count);
  }

  one-later : (step : Step) (now : List Step) (set : ℕ) (sample : Sampled) → IsStored now set sample → IsStored (step ∷ now) set sample
  one-later step now set sample is =
      stored-later now (step ∷ now) set sample (step-extends (meta_in second.dataset set) first (source_at sources set).read_group (source_at sources set).reader step now) is

  none-row : (set : ℕ) → meta_in second.dataset set ≡ no_meta → row_in (meta_in second.dataset set).fields no_sample.row.words ≡ []
  unfolding row_in
  none-row set e = ap (λ (m : MetaData). row_in m.fields no_sample.row.words) e

  now-stored : (now : List Step) (collected : List Sampled) (set : ℕ) (b : Bool) → nat_lt set (length second.dataset) ≡ b → AreCollected first second sources now collected → IsStored now set (slice_index_or collected set no_sample)
  now-stored now collected set true e are =
      let lt : set < length second.dataset = grind (arith, nat_tests) in
      let is = are.each set lt in
      record {
        past = λ le. absurd (omega (arith, le, lt));
        count = let a = is.version in omega (arith, a);
        row = is.row ∙ ap (store_row (meta_in second.dataset set) (stores_of first sources set now)) (sym is.version);
      }
  now-stored now collected set false e are =
      let le : length second.dataset ≤ set = grind (arith, nat_tests) in
      let none : slice_index_or collected set no_sample ≡ no_sample = get_or_past collected set no_sample (let c = are.count in omega (arith, c, le)) in
      let meta : meta_in second.dataset set ≡ no_meta = get_or_past second.dataset set no_meta le in
      subst (IsStored now set) (sym none) (record {
        past = λ le. refl;
        count = omega arith;
        row = none-row set meta ∙ sym (row-none (meta_in second.dataset set) (stores_of first sources set now) ∙ ap (λ (m : MetaData). Rattle.dataset_meta.specs.Rows.opening_row m.fields) meta);
      })

  pub sampled : (relay : List RelayStep) (set : ℕ) (now : MetaData) (sample : Sampled) → Collects first second sources relay → HasSample (plan_again second) (seconds relay) set now sample → IsStored (firsts relay) set sample
  sampled [] set now sample collects has = absurd has
  sampled (Enable id ∷ before) set now sample collects has = one-later (steps.Enable id) (firsts before) set sample (sampled before set now sample collects has)
  sampled (Disable id ∷ before) set now sample collects has = one-later (steps.Disable id) (firsts before) set sample (sampled before set now sample collects has)
  sampled (Append at field ∷ before) set now sample collects has = one-later (steps.Append at field) (firsts before) set sample (sampled before set now sample collects has)
  sampled (Round ms closing samples done entries collected again back ∷ before) set now sample collects (inl is) =
      subst (IsStored (firsts (Round ms closing samples done entries collected again back ∷ before)) set) is.0
      (now-stored (firsts (Round ms closing samples done entries collected again back ∷ before)) collected set (nat_lt set (length second.dataset)) refl collects.0)
  sampled (Round ms closing samples done entries collected again back ∷ before) set now sample collects (inr has) =
      stored-later (firsts before) (firsts (Round ms closing samples done entries collected again back ∷ before)) set sample
      (two-later set (steps.Pump entries) (steps.Tick ms closing samples done) (firsts before)) (sampled before set now sample collects.1 has)

  counted-later : (step : RelayStep) (before : List RelayStep) (set : ℕ) (sample : Sampled) → WasCounted first sources before set sample → WasCounted first sources (step ∷ before) set sample
  counted-later step before set sample is = record {
    newer = step ∷ is.newer;
    round = is.round;
    before = is.before;
    split = ap (λ (l : List RelayStep). step ∷ l) is.split;
    collected = is.collected;
    count = is.count;
  }

  -- each is the count of its source's stores when it was collected
  pub was-counted : (relay : List RelayStep) (set : ℕ) (now : MetaData) (sample : Sampled) → set < length second.dataset → Collects first second sources relay → HasSample (plan_again second) (seconds relay) set now sample
      → WasCounted first sources relay set sample
  was-counted [] set now sample lt collects has = absurd has
  was-counted (Enable id ∷ before) set now sample lt collects has = counted-later (Enable id) before set sample (was-counted before set now sample lt collects has)
  was-counted (Disable id ∷ before) set now sample lt collects has = counted-later (Disable id) before set sample (was-counted before set now sample lt collects has)
  was-counted (Append at field ∷ before) set now sample lt collects has = counted-later (Append at field) before set sample (was-counted before set now sample lt collects has)
  was-counted (Round ms closing samples done entries collected again back ∷ before) set now sample lt collects (inl is) = record {
    newer = [];
    round = Round ms closing samples done entries collected again back;
    before = before;
    split = refl;
    collected = is.0;
    count = sym (ap (λ (s : Sampled). s.version) is.0) ∙ (collects.0.each set lt).version;
  }
  was-counted (Round ms closing samples done entries collected again back ∷ before) set now sample lt collects (inr has) =
      counted-later (Round ms closing samples done entries collected again back) before set sample (was-counted before set now sample lt collects.1 has)

  -- its samples are versions, the stores of their sources
  pub are-versions : (relay : List RelayStep) → Collects first second sources relay → AreVersions (plan_again second) (seconds relay) (stored_rows first second sources (firsts relay))
  are-versions relay collects set now sample has = (sampled relay set now sample collects has).row

  rise-on : (set : ℕ) (b : Bool) (sample : Sampled) (ms : ℕ) (closing : Bool) (samples : List Sampled) (done : List Bool) (entries : List Rattle.ua_base.specs.Journal.Entry) (collected : List Sampled) (before : List Step) → nat_lt set (length second.dataset) ≡ b
      → AreCollected first second sources (steps.Pump entries ∷ steps.Tick ms closing samples done ∷ before) collected → IsStored before set sample → sample.version ≤ (slice_index_or collected set no_sample).version
  rise-on set true sample ms closing samples done entries collected before e are is =
      let now = are.each set (grind (arith, nat_tests)) in
      let a = now.version in let b = is.count in let c = (two-later set (steps.Pump entries) (steps.Tick ms closing samples done) before).count in
      omega (arith, a, b, c)
  rise-on set false sample ms closing samples done entries collected before e are is = let a = is.past (grind (arith, nat_tests)) in omega (arith, a)

  -- and they never fall
  pub rises : (relay : List RelayStep) → Collects first second sources relay → SamplesRise (plan_again second) (seconds relay)
  rises [] collects = tt
  rises (Enable id ∷ before) collects = rises before collects
  rises (Disable id ∷ before) collects = rises before collects
  rises (Append at field ∷ before) collects = rises before collects
  rises (Round ms closing samples done entries collected again back ∷ before) collects = (
    λ set now sample has. rise-on set (nat_lt set (length second.dataset)) sample ms closing samples done entries collected (firsts before) refl collects.0 (sampled before set now sample collects.1 has),
    rises before collects.1,
  )

  zip-of : {A B : Type 0} (R : A → B → Type 0) (xs : List A) (ys : List B) (d : A) (e : B) → length ys ≡ length xs → ((i : ℕ) → i < length xs → R (get_or xs i d) (get_or ys i e)) → AllZip R xs ys
  zip-of R [] [] d e same each = tt
  zip-of R [] (y ∷ ys) d e same each = absurd (omega (arith, same))
  zip-of R (x ∷ xs) [] d e same each = absurd (omega (arith, same))
  zip-of R (x ∷ xs) (y ∷ ys) d e same each = (each zero (omega arith), zip-of R xs ys d e (omega (arith, same)) (λ i lt. each (suc i) (omega (arith, lt))))

  -- each round has one tick and one pump of the gateway, and ends where the session's own does
  again-counts : (relay : List RelayStep) → (ticks_in (seconds relay) ≡ ticks_in (firsts relay)) × (pumps_in (seconds relay) ≡ ticks_in (seconds relay)) × (is_closed (seconds relay) ≡ is_closed (firsts relay))
  again-counts [] = (refl, refl, refl)
  again-counts (Enable id ∷ before) = again-counts before
  again-counts (Disable id ∷ before) = again-counts before
  again-counts (Append at field ∷ before) = again-counts before
  again-counts (Round ms closing samples done entries collected again back ∷ before) =
      let h = again-counts before in
      (ap (λ (n : ℕ). n + 1) h.0, ap (λ (n : ℕ). n + 1) h.1, ap (λ (b : Bool). closing || b) h.2)

  -- they are steps of a session
  pub steps-again : (p : Plan) (relay : List RelayStep) → AreSteps p (firsts relay) → Collects first second sources relay → AreSteps (plan_again second) (seconds relay)
  steps-again p [] are collects = tt
  steps-again p (Enable id ∷ before) are collects = steps-again p before are.1 collects
  steps-again p (Disable id ∷ before) are collects = steps-again p before are.1 collects
  steps-again p (Append at field ∷ before) are collects = steps-again p before are.1 collects
  steps-again p (Round ms closing samples done entries collected again back ∷ before) are collects =
      let h = again-counts before in
      let came = are.1.0 in (
        (let pumps = h.1 in omega (arith, pumps)),
        (
          record {
            rows = zip-of (λ (meta : MetaData) (sample : Sampled). Belongs meta sample.row.words) second.dataset collected no_meta no_sample collects.0.count (λ set lt. (collects.0.each set lt).belongs);
            short = came.short;
            running = h.2 ∙ came.running;
            left = λ before_end. (let ticks = h.0 in let few = came.left before_end in omega (arith, ticks, few));
            still = came.still;
          },
          steps-again p before are.1.1 collects.1,
        ),
      )
