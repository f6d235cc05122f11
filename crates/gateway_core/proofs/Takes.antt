-- What a collect takes, one data set after another.
use Rattle.std.proofs.Common.{◌≡◌, sym, ◌∙◌, arith, ℕ, ◌<◌, List, ◌∷◌, length, get_or}
use Rattle.std.specs.List.{HoldsAt}
use Rattle.std.proofs.lemmas.List.{get_or-map, get_or_default, length-map, same_lists}
use Rattle.target_cells.specs.declared.origin.Origin.{Origin}
use Rattle.version_cell.specs.Known.{Known}
use Rattle.version_cell.specs.Sets.{pass_at}
use Rattle.writer_group.specs.declared.sampled.Sampled.{Sampled}
use Rattle.writer_group.specs.Turns.{no_sample}
use Rattle.session_parts.proofs.Each.{EachTo, each-none}
use Rattle.gateway_core.specs.declared.collected.Versions.{Versions}
use Rattle.gateway_core.specs.Lived.{GatewayStep, Collect, collected, no_origin, sample_of, version_by, versions_kept}
use Rattle.gateway_core.specs.Holding.{HasRoom}
use Rattle.gateway_core.specs.Standing.{HaveKept, KeepsOn}

-- a version more was kept, where the store is another than the last, and it is one of the first
pub record Notes (most : ℕ) (origin : Origin) (old new : Versions) : Type 0 where
  pub kept : KeepsOn most (version_by origin) old new
  pub room : HasRoom most new

-- the sample of this data set is that of its source
abbrev pub IsSampled : List ℕ → List Known → ℕ → Sampled → Sampled → Type 0
IsSampled sources passes set old new = new ≡ sample_of (pass_at passes (get_or sources set 0))

-- the version of its source's last store was kept
abbrev pub IsNoted : ℕ → List ℕ → List Origin → ℕ → Versions → Versions → Type 0
IsNoted most sources origins set old new = Notes most (get_or origins (get_or sources set 0) no_origin) old new

-- the first n data sets were taken
pub record HaveTaken (most n : ℕ) (sources : List ℕ) (passes : List Known) (origins : List Origin) (samples more : List Sampled) (versions later : List Versions) : Type 0 where
  pub sampled : EachTo (IsSampled sources passes) n samples more
  pub noted : EachTo (IsNoted most sources origins) n versions later

pub taken-none : (most : ℕ) (sources : List ℕ) (passes : List Known) (origins : List Origin) (samples : List Sampled) (versions : List Versions)
    → HaveTaken most 0 sources passes origins samples samples versions versions
taken-none most sources passes origins samples versions = record {
  sampled = each-none (IsSampled sources passes) samples;
  noted = each-none (IsNoted most sources origins) versions;
}

pub samples-are : (sources : List ℕ) (passes : List Known) (n : ℕ) (samples more : List Sampled) → EachTo (IsSampled sources passes) n samples more
    → n ≡ length sources → length samples ≡ length sources → more ≡ collected sources passes
samples-are sources passes n samples more each all same =
    same_lists more (collected sources passes) (each.count ∙ same ∙ sym (length-map sources (λ source. sample_of (pass_at passes source)))) (λ k d low.
    get_or_default more k d no_sample low
    ∙ each.done k (omega (arith, low, all, same, each.count)) (omega (arith, low, each.count)) no_sample
    ∙ sym (get_or-map (λ source. sample_of (pass_at passes source)) sources k 0 d (omega (arith, low, same, each.count))))

pub kept-are : (most : ℕ) (sources : List ℕ) (passes : List Known) (origins : List Origin) (n : ℕ) (versions later : List Versions) → EachTo (IsNoted most sources origins) n versions later
    → n ≡ length sources → length versions ≡ length sources → (lived : List GatewayStep) → HaveKept most sources lived versions
    → HaveKept most sources (Collect passes origins ∷ lived) later
kept-are most sources passes origins n versions later each all same lived kept set low d =
    (each.done set (omega (arith, low, all)) (omega (arith, low, same)) d).kept (versions_kept (get_or sources set 0) lived) (kept set low d)

pub rooms-are : (most : ℕ) (sources : List ℕ) (origins : List Origin) (n : ℕ) (versions later : List Versions) → EachTo (IsNoted most sources origins) n versions later
    → n ≡ length sources → length versions ≡ length sources → (set : ℕ) → set < length sources → HoldsAt (HasRoom most) later set
rooms-are most sources origins n versions later each all same set low d = (each.done set (omega (arith, low, all)) (omega (arith, low, same)) d).room
