use Rattle.std.proofs.Common.{List, ℕ, Err, inr, refl}
use Rattle.std.proofs.lemmas.Result.{err_from_is_err_and}
use Rattle.bl_load.specs.Handover.{Handover}
use Rattle.bl_image.specs.SourceFacts.{SourceFacts}
use Rattle.bl_walk.specs.Faults.{HasWalkFault}
use Rattle.bl_walk.specs.declared.fault.WalkFault.{WalkFault}
use Rattle.bl_walk.specs.declared.fault.WalkFault.TheVariants.{OutsideImage, BadInfo, BadState}
use Rattle.bl_walk.specs.declared.fault.WalkFault.TheVariants.{NoMemory}
use Rattle.program_commands.specs.ReadImage.{ReadsImage}
use Rattle.program_commands.specs.internal.WalkEnds.{WalkEnds, end_of_walk_fault}
use Rattle.program_commands.proofs.image_walk.run_walk.Goals as goal

-- an image came in which a kernel sees nothing
shows_nothing : (before after : SourceFacts) (old : List ℕ) (h : Handover) (fault : WalkFault)
    → ReadsImage before after h → HasWalkFault h fault
    → WalkEnds before after old old (Err (end_of_walk_fault fault))
shows_nothing before after old h OutsideImage read stands = (
  inr (record {
    handover = h;
    read = read;
    fault = OutsideImage;
    no_memory = λ e. cc;
    stands = stands;
    numbered = refl;
  }),
  refl,
)
shows_nothing before after old h BadInfo read stands = (
  inr (record {
    handover = h;
    read = read;
    fault = BadInfo;
    no_memory = λ e. cc;
    stands = stands;
    numbered = refl;
  }),
  refl,
)
shows_nothing before after old h BadState read stands = (
  inr (record {
    handover = h;
    read = read;
    fault = BadState;
    no_memory = λ e. cc;
    stands = stands;
    numbered = refl;
  }),
  refl,
)
shows_nothing before after old h NoMemory read stands = refl

pub returns-in_err-seen-clause-ends : goal.returns-in_err-seen-clause-ends
returns-in_err-seen-clause-ends g c =
    let p =
    err_from_is_err_and c.from_residual-in_err-seen.result
    c.from_residual-in_err-seen.ensures.1 in
    rw (p.1, p.2)
    (shows_nothing (g.R.Source.input c.args.image.now) (g.R.Source.input c.read_image.new.source)
    c.args.say.now.items c.in_ok-image.image c.in_err-seen.field-0.0
    (record {
      version = c.in_ok-image.ensures.ok.0;
      has = c.in_ok-image.ensures.ok.1;
      came = c.in_ok-image.ensures.ok.2;
      ended = c.in_ok-image.ensures.ended;
      kept = c.in_ok-image.ensures.kept;
    })
    c.in_err-seen.ensures.fault)
