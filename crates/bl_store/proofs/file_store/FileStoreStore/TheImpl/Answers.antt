use Rattle.bl_store.proofs.ToldLemmas.{file_store_tells}
use Rattle.bl_store.proofs.file_store.FileStoreStore.TheImpl.Goals as goal

pub next-tells : goal.next-tells
next-tells g x c =
    let tells =
    file_store_tells c.args.self.now c.new.self.now c.result c.ensures.answer c.ensures.ok
    c.ensures.err in
    record {
      files = tells.files;
      given = tells.given;
      none = tells.none;
      fewer = tells.fewer;
      as_many = tells.as_many;
      err = tells.err;
    }
