use Rattle.std.proofs.Common.{◌≡◌, ap}
use Rattle.bl_params.specs.ParamsFacts.{ParamsFacts}
use Rattle.bl_walk.specs.Faults.{initrd}
use Rattle.bl_walk.proofs.parameters.initrd.Goals as goal

pub follow-requires : goal.follow-requires
follow-requires g c =
    let image : c.params.inside.ramdisk_image ≡ c.args.params.now.ramdisk_image =
    ap (λ (p : ParamsFacts). p.ramdisk_image) c.params.view_is in
    let size : c.params.inside.ramdisk_size ≡ c.args.params.now.ramdisk_size =
    ap (λ (p : ParamsFacts). p.ramdisk_size) c.params.view_is in
    rw (image, size) (initrd c.args.params.now c.requires)
