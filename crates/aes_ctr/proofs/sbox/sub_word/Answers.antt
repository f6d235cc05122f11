use Rattle.std.proofs.Common.{◌∙◌, ◌++◌, ◌<◌, slice_index, replicate, Fits, w8, refl, ap, lit<}
use Rattle.std.proofs.lemmas.Simd.{Each1-replicate}
use Rattle.aes_ctr.specs.Cipher.{sub_bytes}
use Rattle.aes_ctr.proofs.Lists.{below_eight, lanes_are, bytes_before}
use Rattle.aes_ctr.specs.InPlanes.{values}
use Rattle.aes_ctr.proofs.sbox.sub_word.Goals as goal

pub to_planes-requires : goal.to_planes-requires
to_planes-requires c =
    let none : Fits w8 0 = record { fits = lit< tt } in
    let v = lanes_are (values (slice_index c.args.w.now) 0 4 ++ replicate 12 0) refl
    (bytes_before (slice_index c.args.w.now) 0 4 (replicate 12 0) c.fits-w (Each1-replicate (Fits w8) 12 0 none)) in
    below_eight _ (v, v, v, v, v, v, v, v)

pub returns : goal.returns
unfolding sub_bytes
returns c =
    let first : 0 < 8 = lit< tt in
    let all = c.from_planes-all.ensures.blocks 0 first ∙ c.sub_bytes.ensures.blocks 0 first ∙ ap sub_bytes (c.to_planes.ensures.blocks 0 first) in
    rw all refl
