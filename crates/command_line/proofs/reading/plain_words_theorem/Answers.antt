use Rattle.command_line.proofs.PlainWords.{flag_version, help_refusals, hyphen_asm, hyphen_run, letter_version, plain_asm, plain_both, plain_check, plain_dis, plain_explained, plain_judge, plain_names, plain_narrated, plain_run, plain_unsigned, plain_workers}
use Rattle.command_line.proofs.reading.plain_words_theorem.Goals as goal

pub returns : goal.returns
returns c = record {
  check = plain_check;
  unsigned = plain_unsigned;
  both = plain_both;
  explained = plain_explained;
  narrated = plain_narrated;
  judge = plain_judge;
  asm = plain_asm;
  dis = plain_dis;
  run = plain_run;
  workers = plain_workers;
  names = plain_names;
  version = flag_version;
  version_letter = letter_version;
  refusals = help_refusals;
  asm_hyphen = hyphen_asm;
  run_hyphen = hyphen_run;
}
