-- Ids are places among the components.
use Rattle.std.proofs.Common.{◌≡◌, ℕ, ◌+◌, List, [], ◌∷◌, ◌++◌, length, sum, sym, ap, subst, ◌∙◌, refl, arith, zero, suc, All, zero-add, append-nil, Some, slice_get}
use Rattle.std.proofs.lemmas.Option.{slice_get_within, slice_get-get_or}
use Rattle.pubsub_states.specs.declared.component.Component.{Component}
use Rattle.pubsub_states.specs.declared.component.Component.TheVariants.{Root, Connection, Group, Writer, ReadGroup, Reader}
use Rattle.pubsub_states.specs.Components.{Counts, components, families, before_family, first_read_group, IsAmong, IsId, id_of}
use Rattle.pubsub_states.proofs.Families.{slice_get-skip, length-families, at_head, at_member, Standing, Head, Member, Behind, standing, some_same}

-- behind the root and the connection
two_behind : (xs : List Component) (n k : ℕ) → n ≡ suc (suc k) → slice_get (Root ∷ Connection ∷ xs) n ≡ slice_get xs k
two_behind xs n k e = ap (slice_get (Root ∷ Connection ∷ xs)) e

-- among the read groups and their readers
behind_groups : (counts : Counts) (n k : ℕ) → n ≡ first_read_group counts + k
    → slice_get (components counts) n ≡ slice_get (families ReadGroup Reader 0 counts.readers ++ []) k
behind_groups counts n k e =
    let groups = families Group Writer 0 counts.writers in
    let readers = families ReadGroup Reader 0 counts.readers in
    let long : length groups ≡ length counts.writers + sum counts.writers = length-families Group Writer 0 counts.writers in
    let at : n ≡ suc (suc (length groups + k)) = omega (arith, e, long) in
    two_behind (groups ++ readers) n (length groups + k) at
    ∙ slice_get-skip groups readers k
    ∙ ap (λ xs. slice_get xs k) (sym (append-nil readers))

pub component_at : (counts : Counts) (component : Component) → IsAmong counts component
    → slice_get (components counts) (id_of counts component) ≡ Some component
component_at counts Root h = refl
component_at counts Connection h = refl
component_at counts (Group g) h =
    two_behind _ _ (before_family counts.writers g) (omega arith)
    ∙ at_head Group Writer 0 counts.writers (families ReadGroup Reader 0 counts.readers) g h
    ∙ ap (λ m. Some (Group m)) (zero-add g)
component_at counts (Writer g w) h =
    two_behind _ _ (before_family counts.writers g + 1 + w) (omega arith)
    ∙ at_member Group Writer 0 counts.writers (families ReadGroup Reader 0 counts.readers) g w h
    ∙ ap (λ m. Some (Writer m w)) (zero-add g)
component_at counts (ReadGroup r) h =
    behind_groups counts _ (before_family counts.readers r) refl
    ∙ at_head ReadGroup Reader 0 counts.readers [] r h
    ∙ ap (λ m. Some (ReadGroup m)) (zero-add r)
component_at counts (Reader r i) h =
    behind_groups counts _ (before_family counts.readers r + 1 + i) (omega arith)
    ∙ at_member ReadGroup Reader 0 counts.readers [] r i h
    ∙ ap (λ m. Some (Reader m i)) (zero-add r)

pub id_within : (counts : Counts) (component : Component) → IsAmong counts component → IsId counts (id_of counts component)
id_within counts component h = slice_get_within (components counts) (id_of counts component) component (component_at counts component h)

-- the component is among the configuration's, and has this id
abbrev IsAt : Counts → ℕ → Component → Type 0
IsAt counts id component = IsAmong counts component × (id_of counts component ≡ id)

of_reading : (counts : Counts) (id k : ℕ) (c : Component) → id ≡ first_read_group counts + k
    → Standing ReadGroup Reader 0 counts.readers [] k c → IsAt counts id c
of_reading counts id k c at (Head g h is place) =
    let is_it : c ≡ ReadGroup g = is ∙ ap ReadGroup (zero-add g) in
    let known : IsAt counts id (ReadGroup g) = (h, omega (arith, at, place)) in
    subst (IsAt counts id) (sym is_it) known
of_reading counts id k c at (Member g w h is place) =
    let is_it : c ≡ Reader g w = is ∙ ap (λ m. Reader m w) (zero-add g) in
    let known : IsAt counts id (Reader g w) = (h, omega (arith, at, place)) in
    subst (IsAt counts id) (sym is_it) known
of_reading counts id k c at (Behind j place is) = cc

of_writing : (counts : Counts) (k : ℕ) (c : Component)
    → Standing Group Writer 0 counts.writers (families ReadGroup Reader 0 counts.readers) k c → IsAt counts (suc (suc k)) c
of_writing counts k c (Head g h is place) =
    let is_it : c ≡ Group g = is ∙ ap Group (zero-add g) in
    let known : IsAt counts (suc (suc k)) (Group g) = (h, omega (arith, place)) in
    subst (IsAt counts (suc (suc k))) (sym is_it) known
of_writing counts k c (Member g w h is place) =
    let is_it : c ≡ Writer g w = is ∙ ap (λ m. Writer m w) (zero-add g) in
    let known : IsAt counts (suc (suc k)) (Writer g w) = (h, omega (arith, place)) in
    subst (IsAt counts (suc (suc k))) (sym is_it) known
of_writing counts k c (Behind j place is) =
    let readers = families ReadGroup Reader 0 counts.readers in
    let found : slice_get (readers ++ []) j ≡ Some c = ap (λ xs. slice_get xs j) (append-nil readers) ∙ is in
    of_reading counts (suc (suc k)) j c (omega (arith, place)) (standing ReadGroup Reader 0 counts.readers [] j c found)

pub placed : (counts : Counts) (id : ℕ) (c : Component) → slice_get (components counts) id ≡ Some c → IsAmong counts c × (id_of counts c ≡ id)
placed counts zero c is = subst (IsAt counts 0) (some_same Root c is) (tt, refl)
placed counts (suc zero) c is = subst (IsAt counts 1) (some_same Connection c is) (tt, refl)
placed counts (suc (suc k)) c is =
    of_writing counts k c (standing Group Writer 0 counts.writers (families ReadGroup Reader 0 counts.readers) k c is)

-- each of them is among them
pub all-among : (counts : Counts) → All (IsAmong counts) (components counts)
all-among counts = λ k d within. (placed counts k _ (slice_get-get_or (components counts) k d within)).0
