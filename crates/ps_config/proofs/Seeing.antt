-- Tests of the tables of the code, and of what the definitions see of them.
use Rattle.std.proofs.Common.{◌≡◌, ℕ, suc, ◌+◌, Bool, true, false, ◌||◌, not, cond, List, [], ◌∷◌, map, length, filter, position, string_bytes, refl, ap}
use Rattle.std.specs.List.{list_any, prefix_len}
use Rattle.std.specs.Map.{keys_of}
use Rattle.toml.specs.View.{members_view}
use Rattle.toml.proofs.Views.{Entry}
use Rattle.config_tables.specs.declared.document.Placed.{Placed}
use Rattle.ps_config.specs.Faults.{any_key}
use Rattle.config_tables.specs.Tables.{Located}
use Rattle.config_tables.specs.Seen.{seen}

pub any_seen : (p : Located → Bool) (ts : List Placed) → list_any p (map seen ts) ≡ list_any (λ t. p (seen t)) ts
any_seen p [] = refl
any_seen p (t ∷ ts) = ap (λ rest. p (seen t) || rest) (any_seen p ts)

pub any_key_of : (p : List ℕ → Bool) (es : List Entry) → list_any (λ key. p (string_bytes key)) (keys_of es) ≡ any_key p (members_view es)
any_key_of p [] = refl
any_key_of p (e ∷ es) = ap (λ rest. p (string_bytes e.0) || rest) (any_key_of p es)

one_seen : (b : Bool) (t : Placed) (xs : List Located) (ys : List Placed) → xs ≡ map seen ys → cond b (seen t ∷ xs) xs ≡ map seen (cond b (t ∷ ys) ys)
one_seen true t xs ys e = ap (λ zs. seen t ∷ zs) e
one_seen false t xs ys e = e

pub filter_seen : (p : Located → Bool) (ts : List Placed) → filter p (map seen ts) ≡ map seen (filter (λ t. p (seen t)) ts)
filter_seen p [] = refl
filter_seen p (t ∷ ts) = one_seen (p (seen t)) t _ _ (filter_seen p ts)

prefix_seen : (p : Located → Bool) (ts : List Placed) → prefix_len p (map seen ts) ≡ prefix_len (λ t. p (seen t)) ts
prefix_seen p [] = refl
prefix_seen p (t ∷ ts) = ap (λ n. cond (p (seen t)) (1 + n) 0) (prefix_seen p ts)

length_seen : (ts : List Placed) → length (map seen ts) ≡ length ts
length_seen [] = refl
length_seen (t ∷ ts) = ap suc (length_seen ts)

pub position_seen : (p : Located → Bool) (ts : List Placed) → position p (map seen ts) ≡ position (λ t. p (seen t)) ts
position_seen p ts = rw (prefix_seen (λ t. not (p t)) ts, length_seen ts)
