use Rattle.bl_image.proofs.part_writer.write_copy.Goals as goal

pub returns : goal.returns
returns g c = record {
  ok = rw (← c.read.ensures) c.write_all.ensures.ok;
  sound = c.write_all.ensures.sound;
  begun = rw (← c.read.ensures) c.write_all.ensures.begun;
  fault = c.write_all.ensures.fault;
}
