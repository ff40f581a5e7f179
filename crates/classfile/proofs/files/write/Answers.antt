use Rattle.classfile.proofs.files.write.Goals as goal

pub returns : goal.returns
returns c = rw (c.in_ok-put_file.ensures.2, c.new-bytes.ensures.items) c.in_ok-put_file.ensures.1
