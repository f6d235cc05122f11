use Rattle.std.proofs.Common.{◌≡◌, ◌<◌, ℕ, ◌∙◌, refl, sym, ap, subst, arith, length, get_or, None}
use Rattle.std.specs.Prelude.{Vec}
use Rattle.std.specs.declared.alloc.Global.{Global}
use Rattle.std.proofs.lemmas.List.{get_or_default, get_or_read}
use Rattle.std.proofs.lemmas.List.Elements.{All-get_or}
use Rattle.target_cells.specs.declared.origin.Origin.{Origin}
use Rattle.version_cell.specs.Sets.{pass_at}
use Rattle.session_parts.proofs.Each.{each-more}
use Rattle.gateway_core.specs.Lived.{no_origin, sample_of, version_by}
use Rattle.gateway_core.specs.Holding.{HasRoom}
use Rattle.gateway_core.specs.Standing.{KeepsOn}
use Rattle.gateway_core.proofs.Takes.{IsNoted, IsSampled, Notes, kept-are, rooms-are, samples-are, taken-none}
use Rattle.gateway_core.proofs.collected.Collected.take.Goals as goal

pub loop-set-init : goal.loop-set-init
loop-set-init c =
    let s = c.args.self.now in
    record { sources = refl; logged = refl; taken = taken-none s.logged s.sources.items c.args.passes.now c.args.origins.now s.samples.items s.versions.items }

pub loop-set-preserved : goal.loop-set-preserved
loop-set-preserved c =
    let old = c.args.self.now in
    let mid = c.loop-set.self in
    let n = c.loop-set.set in
    let sources = old.sources.items in
    let passes = c.args.passes.now in
    let origins = c.args.origins.now in
    let inv = c.loop-set.invariant in
    let low : n < length sources = omega (arith, c.loop-set-test.true, c.len-set-end.ensures, old.sources.ok.0) in
    let source : c.index-source.result.now ≡ get_or sources n 0 =
    get_or_read sources n c.index-source.result.now low (c.index-source.ensures ∙ ap (λ (v : Vec ℕ Global). get_or v.items n c.index-source.result.now) inv.sources) 0 in
    let sampled : c.sample_of.result ≡ sample_of (pass_at passes (get_or sources n 0)) = c.sample_of.ensures ∙ ap (λ (k : ℕ). sample_of (pass_at passes k)) source in
    let there : get_or sources n 0 < length origins = All-get_or (λ (k : ℕ). k < length origins) sources n 0 low c.requires.origins in
    let none : Origin = record { store = 0; number = None; version = None } in
    let origin : get_or origins c.from.result none ≡ get_or origins (get_or sources n 0) no_origin =
    ap (λ (k : ℕ). get_or origins k none) (c.from.ensures ∙ source) ∙ get_or_default origins (get_or sources n 0) none no_origin there in
    let most = old.logged in
    let this = c.index_mut-in-loop-set.result.now in
    let noted : Notes most (get_or origins (get_or sources n 0) no_origin) this c.note.new.self =
    record {
      kept = subst (λ (m : ℕ). KeepsOn m (version_by (get_or origins (get_or sources n 0) no_origin)) this c.note.new.self) inv.logged
          (subst (λ (o : Origin). KeepsOn mid.logged (version_by o) this c.note.new.self) origin c.note.ensures.kept);
      room = subst (λ (m : ℕ). HasRoom m c.note.new.self) inv.logged c.note.ensures.room;
    } in
    record {
      sources = inv.sources;
      logged = inv.logged;
      taken = record {
        sampled = each-more (IsSampled sources passes) n old.samples.items mid.samples.items c.index_mut.result.now c.sample_of.result
            (omega (arith, low, c.requires.samples, inv.taken.sampled.count)) c.index_mut.ensures.value sampled inv.taken.sampled;
        noted = each-more (IsNoted most sources origins) n old.versions.items mid.versions.items c.index_mut-in-loop-set.result.now c.note.new.self
            (omega (arith, low, c.requires.versions, inv.taken.noted.count)) c.index_mut-in-loop-set.ensures.value noted inv.taken.noted;
      };
    }

pub note-requires : goal.note-requires
note-requires c =
    let old = c.args.self.now in
    let n = c.loop-set.set in
    let inv = c.loop-set.invariant in
    let this = c.index_mut-in-loop-set.result.now in
    let low : n < length old.sources.items = omega (arith, c.loop-set-test.true, c.len-set-end.ensures, old.sources.ok.0) in
    record {
      room = subst (λ (m : ℕ). HasRoom m this) (sym inv.logged)
          (subst (HasRoom old.logged) (sym (c.index_mut-in-loop-set.ensures.value ∙ inv.taken.noted.left n (omega arith) this)) (c.requires.room n low this));
    }

pub returns-clause-samples : goal.returns-clause-samples
returns-clause-samples c =
    let old = c.args.self.now in
    let all : c.loop-set.set ≡ length old.sources.items = omega (arith, c.loop-set-test.false, c.loop-set.auto.set-end, c.len-set-end.ensures, old.sources.ok.0) in
    samples-are old.sources.items c.args.passes.now c.loop-set.set old.samples.items c.loop-set.self.samples.items c.loop-set.invariant.taken.sampled all c.requires.samples

pub returns-clause-kept : goal.returns-clause-kept
returns-clause-kept c =
    let old = c.args.self.now in
    let all : c.loop-set.set ≡ length old.sources.items = omega (arith, c.loop-set-test.false, c.loop-set.auto.set-end, c.len-set-end.ensures, old.sources.ok.0) in
    kept-are old.logged old.sources.items c.args.passes.now c.args.origins.now c.loop-set.set old.versions.items c.loop-set.self.versions.items c.loop-set.invariant.taken.noted all c.requires.versions

pub returns-clause-room : goal.returns-clause-room
returns-clause-room c =
    let old = c.args.self.now in
    let all : c.loop-set.set ≡ length old.sources.items = omega (arith, c.loop-set-test.false, c.loop-set.auto.set-end, c.len-set-end.ensures, old.sources.ok.0) in
    rooms-are old.logged old.sources.items c.args.origins.now c.loop-set.set old.versions.items c.loop-set.self.versions.items c.loop-set.invariant.taken.noted all c.requires.versions
