-- Worked scripts of sections and views, with their transcripts. They were written by hand beside the rules, and follow from
-- the definitions by computing alone.
use Rattle.std.specs.Prelude.{◌≡◌, codes}
use Rattle.lpc_model.specs.Transcript.{transcript}

pub record WorkedViews : Type 0 where
  -- A section at two places of a process; a range that passes a view, and an address that no view holds.
  pub one_section_in_one_process : transcript (codes "boot 20 24\n24 NtCreateSection 65536 4\n24 NtMapViewOfSection 4 61440 4096 4\n24 NtMapViewOfSection 4 61440 4097 4\n24 NtMapViewOfSection 4 61440 0 2\n24 NtWriteVirtualMemory 65536 414243\n24 NtReadVirtualMemory 0x20000 3\n24 NtWriteVirtualMemory 0x20000 44\n24 NtReadVirtualMemory 0x10fff 2\n24 NtUnmapViewOfSection 0x30000\n24 NtQueryObject 4\n") ≡ codes "1 - boot 00000000\n2 24 NtCreateSection 00000000 h=4\n3 24 NtMapViewOfSection 00000000 base=00010000 size=4096\n4 24 NtMapViewOfSection c000001f\n5 24 NtMapViewOfSection 00000000 base=00020000 size=4096\n6 24 NtWriteVirtualMemory 00000000\n7 24 NtReadVirtualMemory 00000000 data=414243\n8 24 NtWriteVirtualMemory c0000005\n9 24 NtReadVirtualMemory c0000005\n10 24 NtUnmapViewOfSection c0000019\n11 24 NtQueryObject 00000000 type=section access=000f001f handles=1 pointers=3\nend 11 11 3\n"
  -- A section is shown at two places. What is written through one view is read through the other; the section stays while a view shows it.
  pub a_section_in_two_views : transcript (codes "# A process shows a section at two places, and reads at one what it wrote at the other.\nboot 20 24\n24 NtCreateSection 65536 4\n24 NtMapViewOfSection 4 61440 4096 4\n# One byte more would pass the section's end. Size 0 asks for the rest, which may be read alone here.\n24 NtMapViewOfSection 4 61440 4097 4\n24 NtMapViewOfSection 4 61440 0 2\n24 NtWriteVirtualMemory 65536 414243\n24 NtReadVirtualMemory 0x20000 3\n# The second view can't be written, and no one view holds the last byte of the first and the next.\n24 NtWriteVirtualMemory 0x20000 44\n24 NtReadVirtualMemory 0x10fff 2\n24 NtUnmapViewOfSection 0x30000\n24 NtQueryObject 4\n# The section stays while a view shows it, and goes with the last one.\n24 NtClose 4\n24 NtUnmapViewOfSection 0x10000\n24 NtReadVirtualMemory 0x20002 1\n24 NtUnmapViewOfSection 0x20fff\n24 NtReadVirtualMemory 0x20000 1\n") ≡ codes "2 - boot 00000000\n3 24 NtCreateSection 00000000 h=4\n4 24 NtMapViewOfSection 00000000 base=00010000 size=4096\n6 24 NtMapViewOfSection c000001f\n7 24 NtMapViewOfSection 00000000 base=00020000 size=4096\n8 24 NtWriteVirtualMemory 00000000\n9 24 NtReadVirtualMemory 00000000 data=414243\n11 24 NtWriteVirtualMemory c0000005\n12 24 NtReadVirtualMemory c0000005\n13 24 NtUnmapViewOfSection c0000019\n14 24 NtQueryObject 00000000 type=section access=000f001f handles=1 pointers=3\n16 24 NtClose 00000000\n17 24 NtUnmapViewOfSection 00000000\n18 24 NtReadVirtualMemory 00000000 data=43\n19 24 NtUnmapViewOfSection 00000000\n20 24 NtReadVirtualMemory c0000005\nend 20 16 2\n"
  -- What sections, views and memory are refused for, in the order of the tests.
  pub refusals_of_sections : transcript (codes "boot 20 24\n24 NtCreateSection 0 3\n24 NtCreateSection 0 4\n24 NtCreateSection 4194305 4\n24 NtCreateSection 8192 2\n24 NtCreateSection 4186113 4\n24 NtMapViewOfSection 8 0 0 2\n24 NtMapViewOfSection 4 100 0 3\n24 NtMapViewOfSection 4 0 0 3\n24 NtMapViewOfSection 4 0 0 4\n24 NtMapViewOfSection 4 8192 0 2\n24 NtMapViewOfSection 4 4096 4097 2\n24 NtMapViewOfSection 4 4096 1 2\n24 NtDuplicateObject 4 2\n24 NtMapViewOfSection 8 0 0 2\n24 NtCreatePort -\n24 NtMapViewOfSection 12 0 0 2\n24 NtListenPort 4\n24 NtReadVirtualMemory 0x10000 0\n24 NtReadVirtualMemory 0x10000 4097\n24 NtReadVirtualMemory 0xffff 2\n24 NtReadVirtualMemory 0x10ffe 2\n24 NtReadVirtualMemory 0x10fff 2\n24 NtWriteVirtualMemory 0x10000 00\n24 NtUnmapViewOfSection 0x11000\n24 NtUnmapViewOfSection 0x10fff\n24 NtReadVirtualMemory 0x10000 1\n") ≡ codes "1 - boot 00000000\n2 24 NtCreateSection c0000045\n3 24 NtCreateSection c00000f2\n4 24 NtCreateSection c0000040\n5 24 NtCreateSection 00000000 h=4\n6 24 NtCreateSection c0000044\n7 24 NtMapViewOfSection c0000008\n8 24 NtMapViewOfSection c0000220\n9 24 NtMapViewOfSection c0000045\n10 24 NtMapViewOfSection c000004e\n11 24 NtMapViewOfSection c000001f\n12 24 NtMapViewOfSection c000001f\n13 24 NtMapViewOfSection 00000000 base=00010000 size=4096\n14 24 NtDuplicateObject 00000000 h=8\n15 24 NtMapViewOfSection c0000022\n16 24 NtCreatePort 00000000 h=12\n17 24 NtMapViewOfSection c0000024\n18 24 NtListenPort c0000024\n19 24 NtReadVirtualMemory c000000d\n20 24 NtReadVirtualMemory c000000d\n21 24 NtReadVirtualMemory c0000005\n22 24 NtReadVirtualMemory 00000000 data=0000\n23 24 NtReadVirtualMemory c0000005\n24 24 NtWriteVirtualMemory c0000005\n25 24 NtUnmapViewOfSection c0000019\n26 24 NtUnmapViewOfSection 00000000\n27 24 NtReadVirtualMemory c0000005\nend 27 27 4\n"
  -- A view lies at the least base where it meets no other, also between two.
  pub the_least_place : transcript (codes "boot 20 24\n24 NtCreateSection 131072 4\n24 NtMapViewOfSection 4 0 4096 4\n24 NtMapViewOfSection 4 0 65537 4\n24 NtMapViewOfSection 4 0 1 4\n24 NtUnmapViewOfSection 0x20000\n24 NtMapViewOfSection 4 0 0 4\n24 NtMapViewOfSection 4 0 1 4\n24 NtUnmapViewOfSection 0x10000\n24 NtMapViewOfSection 4 0 65536 4\n24 NtQueryObject 4\n") ≡ codes "1 - boot 00000000\n2 24 NtCreateSection 00000000 h=4\n3 24 NtMapViewOfSection 00000000 base=00010000 size=4096\n4 24 NtMapViewOfSection 00000000 base=00020000 size=69632\n5 24 NtMapViewOfSection 00000000 base=00040000 size=4096\n6 24 NtUnmapViewOfSection 00000000\n7 24 NtMapViewOfSection 00000000 base=00020000 size=131072\n8 24 NtMapViewOfSection 00000000 base=00050000 size=4096\n9 24 NtUnmapViewOfSection 00000000\n10 24 NtMapViewOfSection 00000000 base=00010000 size=65536\n11 24 NtQueryObject 00000000 type=section access=000f001f handles=1 pointers=5\nend 11 11 3\n"
  -- A section counts for its maker until neither a handle nor a view names it. The views of a process go with it.
  pub sections_that_go : transcript (codes "boot 20 24\n24 NtCreateSection 1 4\n24 NtMapViewOfSection 4 0 0 4\n24 NtWriteVirtualMemory 0x10000 6869\n24 NtClose 4\n24 NtReadVirtualMemory 0x10000 3\n24 NtCreateSection 4194304 4\n24 NtUnmapViewOfSection 0x10001\n24 NtReadVirtualMemory 0x10000 1\n24 NtCreateSection 4194304 2\n24 NtMapViewOfSection 4 4190208 0 2\n24 NtTerminateProcess self 0\n") ≡ codes "1 - boot 00000000\n2 24 NtCreateSection 00000000 h=4\n3 24 NtMapViewOfSection 00000000 base=00010000 size=4096\n4 24 NtWriteVirtualMemory 00000000\n5 24 NtClose 00000000\n6 24 NtReadVirtualMemory 00000000 data=686900\n7 24 NtCreateSection c0000044\n8 24 NtUnmapViewOfSection 00000000\n9 24 NtReadVirtualMemory c0000005\n10 24 NtCreateSection 00000000 h=4\n11 24 NtMapViewOfSection 00000000 base=00010000 size=4096\n12 ~24 died 00000000\nend 12 12 0\n"
  -- Each process has addresses of its own: two have views at one base, and those of one stay where the other ends.
  pub views_by_process : transcript (codes "boot 20 24\nboot 28 32\n24 NtCreateSection 4096 4\n32 NtCreateSection 4096 4\n24 NtMapViewOfSection 4 0 0 4\n32 NtMapViewOfSection 4 0 0 2\n24 NtWriteVirtualMemory 0x10000 4142\n32 NtReadVirtualMemory 0x10000 2\n32 NtMapViewOfSection 4 0 0 4\n24 NtUnmapViewOfSection 0x20000\n24 NtTerminateProcess self 0\n32 NtReadVirtualMemory 0x20000 1\n") ≡ codes "1 - boot 00000000\n2 - boot 00000000\n3 24 NtCreateSection 00000000 h=4\n4 32 NtCreateSection 00000000 h=4\n5 24 NtMapViewOfSection 00000000 base=00010000 size=4096\n6 32 NtMapViewOfSection 00000000 base=00010000 size=4096\n7 24 NtWriteVirtualMemory 00000000\n8 32 NtReadVirtualMemory 00000000 data=0000\n9 32 NtMapViewOfSection 00000000 base=00020000 size=4096\n10 24 NtUnmapViewOfSection c0000019\n11 ~24 died 00000000\n12 32 NtReadVirtualMemory 00000000 data=00\nend 12 12 3\n"
